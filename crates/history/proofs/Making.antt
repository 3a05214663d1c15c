-- Making a panel: every output is driven, from the first. Assumes nothing.
use Rattle.std.proofs.Common.{◌≡◌, ℕ, zero, suc, ◌+◌, ◌<◌, ◌≤◌, List, take, replicate, sym, refl, ap, ◌∙◌, add-one, arith}
use Rattle.std.proofs.lemmas.List.{take-replicate}
use Rattle.board.specs.Held.{Held, with_output}
use Rattle.board.specs.declared.status.Output.{Output}
use Rattle.board.specs.declared.status.Output.TheVariants as output
use Rattle.slots.specs.declared.sounder.Sounder.{Sounder}
use Rattle.slots.specs.Sounder.{sounder_empty}
use Rattle.door.specs.declared.row.Row.{Row}
use Rattle.door.specs.declared.shown.ReportRow.{ReportRow}
use Rattle.door.specs.Row.{row_at_making}
use Rattle.door.specs.Shown.{report_row}
use Rattle.notices.specs.declared.waiting.Waiting.{Waiting}
use Rattle.notices.specs.Waiting.{none_waiting}
use Rattle.history.specs.Views.{View, all_held, all_driven, fresh_view}

pub all_held_doors : (i : ℕ) (h : Held) → (all_held i h).doors ≡ h.doors
all_held_doors zero h = refl
all_held_doors (suc i) h = all_held_doors i h

pub held_more : (i : ℕ) (h k l : Held) → k ≡ all_held i h → l ≡ with_output k i output.Held → l ≡ all_held (i + 1) h
held_more i h k l e f = f ∙ ap (λ x. with_output x i output.Held) e ∙ ap (λ n. all_held n h) (sym (add-one i))

pub driven_more : {M : Type 0} (driven : M → ℕ → Output → M) (i : ℕ) (m k l : M) → k ≡ all_driven driven i m → l ≡ driven k i output.Held → l ≡ all_driven driven (i + 1) m
driven_more driven i m k l e f = f ∙ ap (λ x. driven x i output.Held) e ∙ ap (λ n. all_driven driven n m) (sym (add-one i))

pub within : (i : ℕ) (h k : Held) → k ≡ all_held i h → i < h.doors + 1 → i ≤ k.doors
within i h k e l =
    let f = all_held_doors i h in
    let g : k.doors ≡ (all_held i h).doors = ap (λ (x : Held). x.doors) e in
    omega arith

-- the tables of 64 hold what each door has at making
module _ (h k : Held) (i n t : ℕ) (r : Row) (s : Sounder) (w : Waiting) (q : ReportRow) (few : h.doors ≤ 64) (all : i ≡ h.doors + 1) (e : k ≡ all_held i h) (er : r ≡ row_at_making) (es : s ≡ sounder_empty) (ew : w ≡ none_waiting) (eq : q ≡ report_row row_at_making) where
  board_is : k ≡ all_held (h.doors + 1) h
  board_is = e ∙ ap (λ x. all_held x h) all

  count : k.doors ≡ h.doors
  count = ap (λ (x : Held). x.doors) board_is ∙ all_held_doors (h.doors + 1) h

  part : {X : Type 0} (x y : X) → x ≡ y → take k.doors (replicate 64 x) ≡ replicate h.doors y
  part x y f = ap (λ c. take c (replicate 64 x)) count ∙ take-replicate h.doors 64 x few ∙ ap (replicate h.doors) f

  abbrev whole : Held → List Row → Sounder → List Waiting → List ReportRow → View
  whole b rs x ws qs = record { board = b; rows = rs; sounder = x; notices = record { waiting = ws; next = 1 }; reported = qs; number = n; tenth = t }

  pub made_view : whole k (take k.doors (replicate 64 r)) s (take k.doors (replicate 64 w)) (take k.doors (replicate 64 q)) ≡ fresh_view h n t
  made_view =
      ap (λ x. whole x (take k.doors (replicate 64 r)) s (take k.doors (replicate 64 w)) (take k.doors (replicate 64 q))) board_is
      ∙ ap (λ x. whole (all_held (h.doors + 1) h) x s (take k.doors (replicate 64 w)) (take k.doors (replicate 64 q))) (part r row_at_making er)
      ∙ ap (λ x. whole (all_held (h.doors + 1) h) (replicate h.doors row_at_making) x (take k.doors (replicate 64 w)) (take k.doors (replicate 64 q))) es
      ∙ ap (λ x. whole (all_held (h.doors + 1) h) (replicate h.doors row_at_making) sounder_empty x (take k.doors (replicate 64 q))) (part w none_waiting ew)
      ∙ ap (whole (all_held (h.doors + 1) h) (replicate h.doors row_at_making) sounder_empty (replicate h.doors none_waiting)) (part q (report_row row_at_making) eq)
