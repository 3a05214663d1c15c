-- The runs show the steadied contact. Assumes nothing.
use Rattle.std.proofs.Common.{◌≡◌, ℕ, zero, suc, ◌+◌, ◌<◌, ◌≤◌, Bool, true, false, cond, ◌&&◌, ltb, leb, List, [], ◌∷◌, length, get_or, take, replicate, sym, refl, ap, ◌∙◌, subst, arith}
use Rattle.std.proofs.lemmas.Bool.Decides.{nat_tests}
use Rattle.std.proofs.lemmas.List.{length-replicate, get_or-replicate, get_or-map, take-replicate}
use Rattle.std.proofs.lemmas.List.FromFn.{length-map-range_with_len, get_or-map-range_with_len}
use Rattle.board.specs.Held.{Held}
use Rattle.board.specs.declared.status.DoorStatus.{DoorStatus}
use Rattle.board.specs.declared.status.DoorStatus.TheVariants.{Closed, Opened, Unknown}
use Rattle.board.specs.declared.status.Output.{Output}
use Rattle.steady.specs.declared.run.Run.{Run}
use Rattle.steady.specs.Run.{same_status, run_at_making, no_run, ticks_after, run_after}
use Rattle.steady.specs.Steady.{Layer, count_for, shown_of, steady_driven, steady_told, steady_fresh}
use Rattle.steady.specs.Law.{Move, after, gave, last_all, steadied, Steadies}
use Rattle.steady.proofs.Runs.{layer}
use Rattle.steady.specs.Law.Move.{drove, ticked}

-- how many of the newest are c
abbrev lead : DoorStatus → List DoorStatus → ℕ
lead c [] = 0
lead c (x ∷ xs) = cond (same_status x c) (suc (lead c xs)) 0

same_self : (c : DoorStatus) → same_status c c ≡ true
same_self Closed = refl
same_self Opened = refl
same_self Unknown = refl

same_is : (a b : DoorStatus) → same_status a b ≡ true → a ≡ b
same_is Closed Closed e = refl
same_is Closed Opened e = cc
same_is Closed Unknown e = cc
same_is Opened Closed e = cc
same_is Opened Opened e = refl
same_is Opened Unknown e = cc
same_is Unknown Closed e = cc
same_is Unknown Opened e = cc
same_is Unknown Unknown e = refl

one_more : (b : Bool) (k n : ℕ) (t : Bool) → t ≡ leb k n → (b && t) ≡ leb (suc k) (cond b (suc n) 0)
one_more true k n t e = grind (arith, nat_tests)
one_more false k n t e = grind (arith, nat_tests)

last_all_lead : (k : ℕ) (c : DoorStatus) (cs : List DoorStatus) → last_all k c cs ≡ leb k (lead c cs)
last_all_lead zero c cs = grind (arith, nat_tests)
last_all_lead (suc k) c [] = grind (arith, nat_tests)
last_all_lead (suc k) c (x ∷ xs) = one_more (same_status x c) k (lead c xs) (last_all k c xs) (last_all_lead k c xs)

-- a door's run after these contacts, the newest first
abbrev run_over : ℕ → List DoorStatus → Run
run_over k [] = run_at_making
run_over k (c ∷ cs) = run_after k (run_over k cs) c

abbrev capped : ℕ → ℕ
capped n = cond (ltb n 255) n 255

first_ticks : (c : DoorStatus) → ticks_after run_at_making c ≡ 1
first_ticks Closed = refl
first_ticks Opened = refl
first_ticks Unknown = refl

counted : (b : Bool) (t n m : ℕ) → t ≡ capped (suc n) → (b ≡ true → n ≡ m) → cond b (cond (ltb t 255) (t + 1) 255) 1 ≡ capped (suc (cond b (suc m) 0))
counted true t n m e f = let h = f refl in grind (arith, nat_tests)
counted false t n m e f = grind (arith, nat_tests)

ticks_lead : (k : ℕ) (cs : List DoorStatus) (c : DoorStatus) → ticks_after (run_over k cs) c ≡ capped (suc (lead c cs))
ticks_lead k [] c = first_ticks c
ticks_lead k (x ∷ xs) c =
    counted (same_status x c) (ticks_after (run_over k xs) x) (lead x xs) (lead c xs) (ticks_lead k xs x) (λ e. ap (λ y. lead y xs) (same_is x c e))

cap_hides : (k n t : ℕ) → k ≤ 255 → t ≡ capped n → leb k t ≡ leb k n
cap_hides k n t l e = grind (arith, nat_tests)

shows : (k : ℕ) (cs : List DoorStatus) → k ≤ 255 → (run_over k cs).shown ≡ steadied k cs
shows k [] l = refl
shows k (c ∷ cs) l =
    let n : lead c (c ∷ cs) ≡ suc (lead c cs) = ap (λ b. cond b (suc (lead c cs)) 0) (same_self c) in
    let t = cap_hides k (suc (lead c cs)) (ticks_after (run_over k cs) c) l (ticks_lead k cs c) in
    let b : leb k (ticks_after (run_over k cs) c) ≡ last_all k c (c ∷ cs) = t ∙ ap (leb k) (sym n) ∙ sym (last_all_lead k c (c ∷ cs)) in
    ap (λ x. cond x c (run_over k cs).shown) b ∙ ap (λ x. cond (last_all k c (c ∷ cs)) c x) (shows k cs l)

module _ {M : Type 0} (held : M → Held) (driven : M → ℕ → Output → M) (told : M → List ℕ → M) (m : M) (k : ℕ) where
  abbrev start : Layer M
  start = steady_fresh held m k

  abbrev at : List Move → Layer M
  at ms = after (steady_driven driven) (steady_told held told) ms start

  below_at : (ms : List Move) → (at ms).below ≡ after driven told ms m
  below_at [] = refl
  below_at (drove i v ∷ ms) = ap (λ x. driven x i v) (below_at ms)
  below_at (ticked bs ∷ ms) = ap (λ x. told x bs) (below_at ms)

  count_at : (ms : List Move) → (at ms).count ≡ count_for k
  count_at [] = refl
  count_at (drove i v ∷ ms) = count_at ms
  count_at (ticked bs ∷ ms) = count_at ms

  length_at : (ms : List Move) → length (at ms).runs ≡ (held m).doors
  length_at [] = length-replicate _ _
  length_at (drove i v ∷ ms) = length_at ms
  length_at (ticked bs ∷ ms) = length-map-range_with_len _ 0 (length (at ms).runs) ∙ length_at ms

  run_at : (ms : List Move) (d : ℕ) → d < (held m).doors → get_or (at ms).runs d no_run ≡ run_over (count_for k) (gave held driven told d ms m)
  run_at [] d l = get_or-replicate (held m).doors d run_at_making no_run l
  run_at (drove i v ∷ ms) d l = run_at ms d l
  run_at (ticked bs ∷ ms) d l =
      let n = length_at ms in
      get_or-map-range_with_len _ 0 (length (at ms).runs) d d no_run (omega arith) (omega arith)
      ∙ ap (λ x. run_after x (get_or (at ms).runs d no_run) (get_or (held (told (at ms).below bs)).inputs.contacts d Closed)) (count_at ms)
      ∙ ap (λ x. run_after (count_for k) x (get_or (held (told (at ms).below bs)).inputs.contacts d Closed)) (run_at ms d l)
      ∙ ap (λ x. run_after (count_for k) (run_over (count_for k) (gave held driven told d ms m)) (get_or (held (told x bs)).inputs.contacts d Closed)) (below_at ms)

  pub fresh_steadies : count_for k ≤ 255 → Steadies held driven told m k start
  fresh_steadies l = record {
    contact = λ ms d h.
        let n = length_at ms in
        let h' : d < length (at ms).runs = omega arith in
        get_or-map shown_of (at ms).runs d no_run Closed h' ∙ ap shown_of (run_at ms d h) ∙ shows (count_for k) (gave held driven told d ms m) l;
    reading = λ ms. ap (λ x. (held x).inputs.readings) (below_at ms);
    output = λ ms. ap (λ x. (held x).outputs) (below_at ms);
    doors = λ ms. ap (λ x. (held x).doors) (below_at ms);
    width = λ ms. ap (λ x. (held x).width) (below_at ms);
  }

  pub made_steadies : (l : Layer M) → l ≡ start → count_for k ≤ 255 → Steadies held driven told m k l
  made_steadies l e h = subst (λ x. Steadies held driven told m k x) (sym e) (fresh_steadies h)

-- a new layer, by the parts of it
pub made_layer : {M : Type 0} (held : M → Held) (m : M) (k n : ℕ) (r : Run) → n ≡ count_for k → r ≡ run_at_making → (held m).doors ≤ 64 → layer m n (take (held m).doors (replicate 64 r)) ≡ steady_fresh held m k
made_layer held m k n r e f l =
    ap (λ x. layer m x (take (held m).doors (replicate 64 r))) e
    ∙ ap (λ x. layer m (count_for k) (take (held m).doors (replicate 64 x))) f
    ∙ ap (layer m (count_for k)) (take-replicate (held m).doors 64 run_at_making l)
