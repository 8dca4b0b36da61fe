-- Tables and blocks by their places, the numbers of a range, and the lowest number that passes a test. Assumes nothing.
use mathlib.Core.Path.{◌≡◌, refl, sym, ap, ap₂, ◌∙◌}
use mathlib.Core.Bool.{Bool, true, false}
use mathlib.Core.Logic.{inl, inr}
use mathlib.Core.List.{List, [], ◌∷◌, ◌++◌, map, append_assoc, append-nil}
use Prim.Native.Nat.{ℕ, zero, suc, ◌+◌, ◌*◌, ◌≤◌, ◌<◌}
use native.Mathlib.Nat.{suc-mul, zero-mul}
use native.Mathlib.Omega.{arith}
use lib.ListN.{length, get_or, take, drop, length-append, get_or-append, get_or-eq_default}
use lib.Seq.{get_or-append-add, take-add, drop-drop}
use Rattle.rack.specs.Lists.{one, count, all, tabulate, range, blocks, lowest}
use Rattle.rack.proofs.Logic.{true_not_false, by_bool, by_lt}
use Rattle.rack.proofs.Lists.{In, Distinct, all_in, in_all, distinct_map, length_le, count_ext, count_map}

-- TABLES
pub length_tabulate : {A : Type 0} (n : ℕ) (f : ℕ → A) → length (tabulate n f) ≡ n
length_tabulate zero f = refl
length_tabulate (suc n) f = ap suc (length_tabulate n (λ i. f (suc i)))

pub get_or_tabulate : {A : Type 0} (n : ℕ) (f : ℕ → A) (i : ℕ) (d : A) → i < n → get_or (tabulate n f) i d ≡ f i
get_or_tabulate zero f i d h = absurd (omega arith)
get_or_tabulate (suc n) f zero d h = refl
get_or_tabulate (suc n) f (suc i) d h = get_or_tabulate n (λ j. f (suc j)) i d (omega arith)

pub get_or_tabulate_past : {A : Type 0} (n : ℕ) (f : ℕ → A) (i : ℕ) (d : A) → n ≤ i → get_or (tabulate n f) i d ≡ d
get_or_tabulate_past n f i d h = get_or-eq_default (tabulate n f) d {n = i} (omega (arith, length_tabulate n f))

pub tabulate_ext : {A : Type 0} (n : ℕ) (f g : ℕ → A) → ((i : ℕ) → i < n → f i ≡ g i) → tabulate n f ≡ tabulate n g
tabulate_ext zero f g h = refl
tabulate_ext (suc n) f g h = cc (h 0 (omega arith), tabulate_ext n (λ i. f (suc i)) (λ i. g (suc i)) (λ i l. h (suc i) (omega arith)))

-- a list is the table of its elements
pub tabulate_get_or : {A : Type 0} (xs : List A) (d : A) → tabulate (length xs) (λ i. get_or xs i d) ≡ xs
tabulate_get_or [] d = refl
tabulate_get_or (x ∷ xs) d = cc (tabulate_get_or xs d)

pub map_tabulate : {A B : Type 0} (g : A → B) (n : ℕ) (f : ℕ → A) → map g (tabulate n f) ≡ tabulate n (λ i. g (f i))
map_tabulate g zero f = refl
map_tabulate g (suc n) f = cc (map_tabulate g n (λ i. f (suc i)))

pub in_tabulate : {A : Type 0} (n : ℕ) (f : ℕ → A) (i : ℕ) → i < n → In (f i) (tabulate n f)
in_tabulate zero f i h = absurd (omega arith)
in_tabulate (suc n) f zero h = inl refl
in_tabulate (suc n) f (suc i) h = inr (in_tabulate n (λ j. f (suc j)) i (omega arith))

pub tabulate_in : {A : Type 0} (n : ℕ) (f : ℕ → A) (v : A) → In v (tabulate n f) → (i : ℕ) × (i < n) × (f i ≡ v)
tabulate_in zero f v m = absurd m
tabulate_in (suc n) f v (inl e) = (0, omega arith, e)
tabulate_in (suc n) f v (inr m) = let r = tabulate_in n (λ j. f (suc j)) v m in (suc r.0, omega arith, r.2)

-- THE NUMBERS BELOW n
pub in_range : (n i : ℕ) → i < n → In i (range n)
in_range n i h = in_tabulate n (λ j. j) i h

pub range_in : (n i : ℕ) → In i (range n) → i < n
range_in n i m = let r = tabulate_in n (λ j. j) i m in omega arith

-- a test of all of them
pub all_below : (n : ℕ) (p : ℕ → Bool) → all p (range n) ≡ true → (i : ℕ) → i < n → p i ≡ true
all_below n p h i l = all_in p (range n) h i (in_range n i l)

pub below_all : (n : ℕ) (p : ℕ → Bool) → ((i : ℕ) → i < n → p i ≡ true) → all p (range n) ≡ true
below_all n p h = in_all p (range n) (λ i m. h i (range_in n i m))

pub distinct_range : (n : ℕ) → Distinct (range n)
distinct_range zero = tt
distinct_range (suc n) = (
  (λ m. let r = tabulate_in n (λ j. suc j) 0 m in omega arith),
  rw (← (map_tabulate suc n (λ j. j))) (distinct_map suc (range n) (distinct_range n) (λ u v i j e. omega arith)),
)

pub length_below : (n : ℕ) (xs : List ℕ) → Distinct xs → ((v : ℕ) → In v xs → v < n) → length xs ≤ n
length_below n xs d h = let k = length_le xs (range n) d (λ v m. in_range n v (h v m)) in omega (arith, length_tabulate n (λ j. j))

pub count_tabulate : {A : Type 0} (p : A → Bool) (n : ℕ) (f : ℕ → A) → count p (tabulate n f) ≡ count (λ i. p (f i)) (range n)
count_tabulate p n f = ap (count p) (sym (map_tabulate f n (λ i. i))) ∙ count_map p f (range n)

-- a count over m numbers and n more
pub count_range_add : (p : ℕ → Bool) (m n : ℕ) → count p (range (m + n)) ≡ count p (range m) + count (λ i. p (m + i)) (range n)
count_range_add p zero n =
    let e : 0 + n ≡ n = omega arith in
    rw e (count_ext p (λ i. p (0 + i)) (range n) (λ i h. ap p (omega arith)) ∙ omega arith)
count_range_add p (suc m) n =
    let e : suc m + n ≡ suc (m + n) = omega arith in
    rw (e, count_tabulate p (m + n) suc, count_range_add (λ i. p (suc i)) m n, count_tabulate p m suc)
    (ap (λ (x : ℕ). one (p 0) + (count (λ i. p (suc i)) (range m) + x))
    (count_ext (λ i. p (suc (m + i))) (λ i. p (suc m + i)) (range n) (λ i h. ap p (omega arith))) ∙ omega arith)

-- BLOCKS of equal length
pub length_blocks : {A : Type 0} (n b : ℕ) (f : ℕ → List A) → ((i : ℕ) → length (f i) ≡ b) → length (blocks n f) ≡ n * b
length_blocks zero b f h = omega arith
length_blocks (suc n) b f h = simp length-append (omega (arith, h 0, length_blocks n b (λ i. f (suc i)) (λ i. h (suc i))))

pub get_or_blocks : {A : Type 0} (n b : ℕ) (f : ℕ → List A) → ((i : ℕ) → length (f i) ≡ b) → (i j : ℕ) (d : A) → i < n → j < b
    → get_or (blocks n f) (i * b + j) d ≡ get_or (f i) j d
get_or_blocks zero b f h i j d hi hj = absurd (omega arith)
get_or_blocks (suc n) b f h zero j d hi hj =
    let e : 0 * b + j ≡ j = omega arith in
    rw e (get_or-append (f 0) (blocks n (λ i. f (suc i))) d j (omega (arith, h 0)))
get_or_blocks (suc n) b f h (suc i) j d hi hj =
    let e : suc i * b + j ≡ length (f 0) + (i * b + j) = omega (arith, h 0) in
    rw e (get_or-append-add (f 0) (blocks n (λ i. f (suc i))) (i * b + j) d ∙ get_or_blocks n b (λ i. f (suc i)) (λ i. h (suc i)) i j d (omega arith) hj)

pub blocks_ext : {A : Type 0} (n : ℕ) (f g : ℕ → List A) → ((i : ℕ) → i < n → f i ≡ g i) → blocks n f ≡ blocks n g
blocks_ext zero f g h = refl
blocks_ext (suc n) f g h = ap₂ ◌++◌ (h 0 (omega arith)) (blocks_ext n (λ i. f (suc i)) (λ i. g (suc i)) (λ i l. h (suc i) (omega arith)))

-- a part of a list and the part behind it, and a part block after block
pub part_then : {A : Type 0} (xs : List A) (p a b : ℕ) → take a (drop p xs) ++ take b (drop (p + a) xs) ≡ take (a + b) (drop p xs)
part_then xs p a b = rw (take-add a b (drop p xs), drop-drop a p xs) refl

pub blocks_part : {A : Type 0} (xs : List A) (n b p : ℕ) (f : ℕ → List A) → ((i : ℕ) → i < n → f i ≡ take b (drop (p + i * b) xs))
    → blocks n f ≡ take (n * b) (drop p xs)
blocks_part xs zero b p f each = rw zero-mul refl
blocks_part xs (suc n) b p f each =
    let e : suc n * b ≡ b + n * b = omega (arith, suc-mul n b) in
    let start : p + 0 * b ≡ p = omega (arith, zero-mul b) in
    rw (e, take-add b (n * b) (drop p xs), drop-drop b p xs)
    (ap₂ ◌++◌ (rw start at (each 0 (omega arith))) (blocks_part xs n b (p + b) (λ i. f (suc i)) next))
  where
    next : (i : ℕ) → i < n → f (suc i) ≡ take b (drop (p + b + i * b) xs)
    next i h = let e : p + suc i * b ≡ p + b + i * b = omega (arith, suc-mul i b) in rw e at (each (suc i) (omega arith))

pub blocks_add : {A : Type 0} (m n : ℕ) (f : ℕ → List A) → blocks (m + n) f ≡ blocks m f ++ blocks n (λ i. f (m + i))
blocks_add zero n f =
    let e : 0 + n ≡ n = omega arith in
    rw e (blocks_ext n f (λ i. f (0 + i)) (λ i h. ap f (omega arith)))
blocks_add (suc m) n f =
    let e : suc m + n ≡ suc (m + n) = omega arith in
    rw e
    (ap (λ (t : List _). f 0 ++ t) (blocks_add m n (λ i. f (suc i)) ∙ ap (λ (t : List _). blocks m (λ i. f (suc i)) ++ t)
    (blocks_ext n (λ i. f (suc (m + i))) (λ i. f (suc m + i)) (λ i h. ap f (omega arith))))
    ∙ sym (append_assoc (f 0) (blocks m (λ i. f (suc i))) (blocks n (λ i. f (suc m + i)))))

-- THE LOWEST NUMBER that passes a test
pub lowest_le : (n : ℕ) (p : ℕ → Bool) → lowest n p ≤ n
lowest_le zero p = omega arith
lowest_le (suc n) p =
    let h = lowest_le n (λ i. p (suc i)) in
    by_bool (p 0) (λ (t : p 0 ≡ true). rw t (omega arith)) (λ (t : p 0 ≡ false). rw t (omega arith))

pub lowest_passes : (n : ℕ) (p : ℕ → Bool) → lowest n p < n → p (lowest n p) ≡ true
lowest_passes zero p h = absurd (omega arith)
lowest_passes (suc n) p h = by_bool (p 0) (λ (t : p 0 ≡ true). rw t t) (later (lowest_passes n (λ i. p (suc i))))
  where
    later : (lowest n (λ i. p (suc i)) < n → p (suc (lowest n (λ i. p (suc i)))) ≡ true) → p 0 ≡ false → p (lowest (suc n) p) ≡ true
    later ih t = let k = rw t at h in rw t (ih (omega arith))

pub lowest_first : (n : ℕ) (p : ℕ → Bool) (i : ℕ) → i < lowest n p → p i ≡ false
lowest_first zero p i h = absurd (omega arith)
lowest_first (suc n) p zero h = by_bool (p 0) (λ (t : p 0 ≡ true). let k = rw t at h in absurd (omega arith)) (λ t. t)
lowest_first (suc n) p (suc i) h =
    by_bool (p 0)
    (λ (t : p 0 ≡ true). let k = rw t at h in absurd (omega arith))
    (λ (t : p 0 ≡ false). let k = rw t at h in lowest_first n (λ j. p (suc j)) i (omega arith))

pub lowest_least : (n : ℕ) (p : ℕ → Bool) (i : ℕ) → p i ≡ true → lowest n p ≤ i
lowest_least n p i h = by_lt i (lowest n p) (λ l. true_not_false (p i) h (lowest_first n p i l)) (λ l. l)

-- where it is: none passes below it, and it passes itself unless it is n
pub lowest_is : (n : ℕ) (p : ℕ → Bool) (i : ℕ) → i ≤ n → ((j : ℕ) → j < i → p j ≡ false) → (i < n → p i ≡ true) → lowest n p ≡ i
lowest_is n p i le before here =
    by_lt (lowest n p) i
    (λ l. true_not_false (p (lowest n p)) (lowest_passes n p (omega arith)) (before (lowest n p) l))
    (λ l. by_lt i n (λ k. omega (arith, lowest_least n p i (here k))) (λ k. omega (arith, lowest_le n p)))

pub lowest_ext : (n : ℕ) (p q : ℕ → Bool) → ((i : ℕ) → i < n → p i ≡ q i) → lowest n p ≡ lowest n q
lowest_ext n p q h =
    lowest_is n p (lowest n q) (lowest_le n q)
    (λ j l. h j (omega (arith, lowest_le n q)) ∙ lowest_first n q j l)
    (λ l. h (lowest n q) l ∙ lowest_passes n q l)

-- TABLES AND BLOCKS by their last element
pub tabulate_snoc : {A : Type 0} (n : ℕ) (f : ℕ → A) → tabulate (n + 1) f ≡ tabulate n f ++ (f n ∷ [])
tabulate_snoc zero f = refl
tabulate_snoc (suc n) f =
    let e : suc n + 1 ≡ suc (n + 1) = omega arith in
    rw e (cc (tabulate_snoc n (λ i. f (suc i))))

pub blocks_snoc : {A : Type 0} (n : ℕ) (f : ℕ → List A) → blocks (n + 1) f ≡ blocks n f ++ f n
blocks_snoc zero f = append-nil (f 0)
blocks_snoc (suc n) f =
    let e : suc n + 1 ≡ suc (n + 1) = omega arith in
    rw e (ap (λ (t : List _). f 0 ++ t) (blocks_snoc n (λ i. f (suc i))) ∙ sym (append_assoc (f 0) (blocks n (λ i. f (suc i))) (f (suc n))))
