-- What exists once for each transition of a door. Assumes nothing.
use Rattle.std.specs.Prelude.{ℕ, ◌+◌, Bool, cond, ◌==◌}
use Rattle.events.specs.declared.event.Transition.{Transition}
use Rattle.events.specs.declared.event.Transition.TheVariants.{ToOffnormal, ToFault, ToNormal}
use Rattle.events.specs.declared.per_transition.PerTransition.{PerTransition}

abbrev pub transition_number : Transition → ℕ
transition_number ToOffnormal = 0
transition_number ToFault = 1
transition_number ToNormal = 2

abbrev pub if_transition : {T : Type 0} → Transition → Transition → T → T → T
if_transition t u new old = cond (transition_number t == transition_number u) new old

-- the entry of t is the new one, the others stay
abbrev pub with_transition : {T : Type 0} → PerTransition T → Transition → T → PerTransition T
with_transition p t x = record {
  to_offnormal = if_transition t ToOffnormal x p.to_offnormal;
  to_fault = if_transition t ToFault x p.to_fault;
  to_normal = if_transition t ToNormal x p.to_normal;
}

abbrev pub bit_number : Bool → ℕ → ℕ
bit_number b n = cond b n 0

-- bit 0 is TO-OFFNORMAL, 1 TO-FAULT, 2 TO-NORMAL
abbrev pub acked_number : PerTransition Bool → ℕ
acked_number a = bit_number a.to_offnormal 1 + bit_number a.to_fault 2 + bit_number a.to_normal 4
