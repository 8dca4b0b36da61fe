-- A buffer written from its start on, a part at once. Assumes nothing.
use mathlib.Core.Path.{◌≡◌, refl, sym, ap, ap₂, ◌∙◌}
use mathlib.Core.List.{List, [], ◌++◌, append_assoc, append-nil}
use Prim.Native.Nat.{ℕ, ◌+◌, ◌-◌, ◌≤◌}
use native.Mathlib.Omega.{arith}
use borrow.Rule.Slice.PartMut.{put_mid}
use lib.ListN.{length, take, drop, replicate, length-append, length-replicate}
use Rattle.std.proofs.lemmas.List.{take_at, drop_at, drop-replicate}
use Rattle.rack.specs.Buffers.{two_bytes, four_bytes, Written, Appends}

-- NOTHING, and one list after another
pub appends_none : (at : ℕ) (old : List ℕ) → Appends at old old []
appends_none at old xs e w = rw (append-nil xs) w

pub appends_then : (at next : ℕ) (old mid new ys zs : List ℕ) → at + length ys ≡ next → Appends at old mid ys → Appends next mid new zs → Appends at old new (ys ++ zs)
appends_then at next old mid new ys zs l a b xs e w =
    rw (← (append_assoc xs ys zs)) (b (xs ++ ys) (simp length-append (omega arith)) (a xs e w))

-- A BUFFER written to its end
pub written_full : (out xs : List ℕ) → length xs ≡ length out → Written out xs → out ≡ xs
written_full out xs e w =
    let z : length out - length xs ≡ 0 = omega arith in
    w.is ∙ ap (λ (k : ℕ). xs ++ replicate k 0) z ∙ append-nil xs

-- A NUMBER of 32 bits: two of 16 bits
pub length_four_bytes : (v : ℕ) → length (four_bytes v) ≡ 4
unfolding four_bytes two_bytes
length_four_bytes v = refl

-- A PART written at once: what stood there before does not matter
pub appends_part : (at n : ℕ) (old ys : List ℕ) → length ys ≡ n → at + n ≤ length old → Appends at old (put_mid at n old ys) ys
appends_part at n old ys l h xs e w =
    let r = length old - length xs in
    let zs = replicate {A = ℕ} r 0 in
    let before : take at old ≡ xs = ap (λ (s : List ℕ). take at s) w.is ∙ take_at xs zs at e in
    let behind : drop n (drop at old) ≡ replicate (r - n) 0 =
    ap (λ (s : List ℕ). drop n (drop at s)) w.is ∙ ap (λ (s : List ℕ). drop n s) (drop_at xs zs at e) ∙ drop-replicate n r 0 in
    let is : put_mid at n old ys ≡ (xs ++ ys) ++ replicate (r - n) 0 =
    ap₂ (λ (a b : List ℕ). a ++ (ys ++ b)) before behind ∙ sym (append_assoc xs ys (replicate (r - n) 0)) in
    let front : length (xs ++ ys) ≡ at + n = simp length-append (omega arith) in
    let long : length (put_mid at n old ys) ≡ at + n + (r - n) =
    ap length is ∙ simp (length-append, length-replicate) (omega arith) in
    let left : length (put_mid at n old ys) - length (xs ++ ys) ≡ r - n = omega arith in
    record { within = omega arith; is = is ∙ ap (λ (k : ℕ). (xs ++ ys) ++ replicate k 0) (sym left) }
