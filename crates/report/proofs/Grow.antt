-- A buffer that is written from its front, one part behind the other. Assumes nothing.
use Rattle.std.proofs.Common.{◌≡◌, ℕ, ◌+◌, ◌-◌, ◌≤◌, List, [], ◌∷◌, ◌++◌, length, take, drop, set, sym, refl, ap, ◌∙◌, append_assoc, append-nil, arith, drop-drop, take_at}
use borrow.Rule.Slice.PartMut.{put_mid}
use lib.Seq.{drop-append-add}
use Rattle.std.specs.List.{between}
use Rattle.std.proofs.lemmas.List.{take_rest, drop_all, length-drop, length-append}

-- s with the bytes es, n in number, written over its front
pub record Front (s xs es : List ℕ) (n : ℕ) : Type 0 where
  pub long : length es ≡ n
  pub bytes : xs ≡ es ++ drop n s

-- fs is written behind them
pub grow : {s xs es : List ℕ} {n : ℕ} → Front s xs es n → {ys : List ℕ} (fs : List ℕ) {m w : ℕ} → length fs ≡ w → m ≡ n + w → ys ≡ take n xs ++ (fs ++ drop (n + w) xs) → Front s ys (es ++ fs) m
grow {s} {xs} {es} {n} h {ys} fs {m} {w} l q k =
    let front : take n xs ≡ es = ap (take n) h.bytes ∙ take_at es (drop n s) n h.long in
    let rest : drop (n + w) xs ≡ drop (n + w) s =
    ap (drop (n + w)) h.bytes ∙ (ap (λ (i : ℕ). drop (i + w) (es ++ drop n s)) (sym h.long) ∙ (drop-append-add es (drop n s) w ∙ drop-drop w n s)) in
    let regroup = append_assoc es fs (drop (n + w) s) in
    record { long = omega (arith, length-append es fs); bytes = cc }

pub two : (s : List ℕ) (a b : ℕ) → 2 ≤ length s → set (set s 0 a) 1 b ≡ (a ∷ b ∷ []) ++ drop 2 s
two [] a b h = absurd (omega arith)
two (x ∷ []) a b h = absurd (omega arith)
two (x ∷ y ∷ s) a b h = refl

-- what a buffer holds after its rest from n on was written
pub part : (xs ys fs : List ℕ) (n w : ℕ) → n ≤ length xs → ys ≡ fs ++ drop w (between n (length xs) xs) → put_mid n (length xs - n) xs ys ≡ take n xs ++ (fs ++ drop (n + w) xs)
part xs ys fs n w h k =
    let none : drop (length xs - n) (drop n xs) ≡ [] = drop_all (length xs - n) (drop n xs) (rw length-drop (omega arith)) in
    let rest : between n (length xs) xs ≡ drop n xs = take_rest xs n in
    let far : drop w (drop n xs) ≡ drop (n + w) xs = drop-drop w n xs in
    let whole : ys ++ [] ≡ ys = append-nil ys in
    cc
