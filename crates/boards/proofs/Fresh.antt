-- New terminals. Assumes nothing.
use Rattle.std.proofs.Common.{◌≡◌, ℕ, zero, suc, ◌+◌, ◌≤◌, List, take, map, replicate, refl, ap, ◌∙◌, arith, ◌∷◌}
use Rattle.std.proofs.lemmas.List.{take-replicate}
use Rattle.board.specs.Held.{Held}
use Rattle.board.specs.declared.status.DoorStatus.{DoorStatus}
use Rattle.board.specs.declared.status.DoorStatus.TheVariants as contact
use Rattle.board.specs.declared.status.LockStatus.{LockStatus}
use Rattle.board.specs.declared.status.LockStatus.TheVariants as reading
use Rattle.board.specs.declared.status.Output.{Output}
use Rattle.board.specs.declared.status.Output.TheVariants as output
use Rattle.boards.specs.declared.terminals.Input.{Input}
use Rattle.boards.specs.Terminals.{fresh}

abbrev held_of : ℕ → ℕ → List Output → List DoorStatus → List LockStatus → Held
held_of n w os cs rs = record { doors = n; width = w; outputs = os; inputs = record { contacts = cs; readings = rs } }

abbrev unknown : Input
unknown = record { contact = contact.Unknown; reading = reading.Unknown }

map_replicate : {X Y : Type 0} (f : X → Y) (n : ℕ) (x : X) → map f (replicate n x) ≡ replicate n (f x)
map_replicate f zero x = refl
map_replicate f (suc n) x = ap (λ l. f x ∷ l) (map_replicate f n x)

front : {X Y : Type 0} (f : X → Y) (n : ℕ) (x : X) → n ≤ 64 → map f (take n (replicate 64 x)) ≡ replicate n (f x)
front f n x l = ap (map f) (take-replicate n 64 x l) ∙ map_replicate f n x

pub fresh_terminals : (n w : ℕ) → n ≤ 64 → held_of n w (take (n + 1) (replicate 65 output.Held)) (map (λ (i : Input). i.contact) (take n (replicate 64 unknown))) (map (λ (i : Input). i.reading) (take n (replicate 64 unknown))) ≡ fresh n w
fresh_terminals n w l =
    let cs = map (λ (i : Input). i.contact) (take n (replicate 64 unknown)) in
    let rs = map (λ (i : Input). i.reading) (take n (replicate 64 unknown)) in
    ap (λ x. held_of n w x cs rs) (take-replicate (n + 1) 65 output.Held (omega arith))
    ∙ ap (λ x. held_of n w (replicate (n + 1) output.Held) x rs) (front (λ (i : Input). i.contact) n unknown l)
    ∙ ap (held_of n w (replicate (n + 1) output.Held) (replicate n contact.Unknown)) (front (λ (i : Input). i.reading) n unknown l)
