-- Membership, lists with no element twice, counting and the pigeonhole. Assumes nothing.
use mathlib.Core.Path.{◌≡◌, refl, sym, ap, ◌∙◌, subst}
use mathlib.Core.Bool.{Bool, true, false, ◌&&◌}
use mathlib.Core.Logic.{◌⊎◌, inl, inr, ⊎_elim}
use mathlib.Core.List.{List, [], ◌∷◌, ◌++◌, map}
use Prim.Native.Nat.{ℕ, zero, suc, ◌+◌, ◌≤◌, ◌<◌}
use native.Mathlib.Omega.{arith}
use lib.ListN.{length, get_or}
use Rattle.rack.specs.Lists.{one, count, all, any, filter, same}
use Rattle.rack.proofs.Logic.{true_not_false, not_true_false, by_bool, or_cases, or_left, or_right, and_left, and_right, and_both}

-- membership by recursion on the list: matched by clauses on the list and then on the sum
abbrev pub In : {A : Type 0} → A → List A → Type 0
In v [] = ⊥
In v (x ∷ xs) = (x ≡ v) ⊎ In v xs

abbrev pub Distinct : {A : Type 0} → List A → Type 0
Distinct [] = Unit {0}
Distinct (x ∷ xs) = (In x xs → ⊥) × Distinct xs

-- tests of all elements and of some
pub all_in : {A : Type 0} (p : A → Bool) (xs : List A) → all p xs ≡ true → (v : A) → In v xs → p v ≡ true
all_in p [] h v m = absurd m
all_in p (x ∷ xs) h v (inl e) = rw e at (and_left (p x) (all p xs) h)
all_in p (x ∷ xs) h v (inr m) = all_in p xs (and_right (p x) (all p xs) h) v m

pub in_all : {A : Type 0} (p : A → Bool) (xs : List A) → ((v : A) → In v xs → p v ≡ true) → all p xs ≡ true
in_all p [] h = refl
in_all p (x ∷ xs) h = and_both (p x) (all p xs) (h x (inl refl)) (in_all p xs (λ v m. h v (inr m)))

pub all_false : {A : Type 0} (p : A → Bool) (xs : List A) → all p xs ≡ false → (v : A) × In v xs × (p v ≡ false)
all_false p [] h = true_not_false true refl h
all_false p (x ∷ xs) h =
    by_bool (p x)
    (λ (t : p x ≡ true). let r = all_false p xs (rw t at h) in (r.0, inr r.1, r.2))
    (λ (t : p x ≡ false). (x, inl refl, t))

pub any_in : {A : Type 0} (p : A → Bool) (xs : List A) → any p xs ≡ true → (v : A) × In v xs × (p v ≡ true)
any_in p [] h = true_not_false false h refl
any_in p (x ∷ xs) h =
    ⊎_elim (λ e. (x, inl refl, e)) (λ e. let r = any_in p xs e in (r.0, inr r.1, r.2)) (or_cases (p x) (any p xs) h)

pub in_any : {A : Type 0} (p : A → Bool) (xs : List A) (v : A) → In v xs → p v ≡ true → any p xs ≡ true
in_any p [] v m h = absurd m
in_any p (x ∷ xs) v (inl e) h = or_left (p x) (any p xs) (rw e h)
in_any p (x ∷ xs) v (inr m) h = or_right (p x) (any p xs) (in_any p xs v m h)

pub any_ext : {A : Type 0} (p q : A → Bool) (xs : List A) → ((v : A) → In v xs → p v ≡ q v) → any p xs ≡ any q xs
any_ext p q [] h = refl
any_ext p q (x ∷ xs) h = cc (h x (inl refl), any_ext p q xs (λ v m. h v (inr m)))

-- membership in what lists are made of
pub in_left : {A : Type 0} (v : A) (xs ys : List A) → In v xs → In v (xs ++ ys)
in_left v [] ys m = absurd m
in_left v (x ∷ xs) ys (inl e) = inl e
in_left v (x ∷ xs) ys (inr m) = inr (in_left v xs ys m)

pub in_right : {A : Type 0} (v : A) (xs ys : List A) → In v ys → In v (xs ++ ys)
in_right v [] ys m = m
in_right v (x ∷ xs) ys m = inr (in_right v xs ys m)

pub in_append : {A : Type 0} (v : A) (xs ys : List A) → In v (xs ++ ys) → In v xs ⊎ In v ys
in_append v [] ys m = inr m
in_append v (x ∷ xs) ys (inl e) = inl (inl e)
in_append v (x ∷ xs) ys (inr m) = ⊎_elim (λ k. inl (inr k)) (λ k. inr k) (in_append v xs ys m)

pub in_filter : {A : Type 0} (p : A → Bool) (xs : List A) (v : A) → In v xs → p v ≡ true → In v (filter p xs)
in_filter p [] v m h = absurd m
in_filter p (x ∷ xs) v (inl e) h = rw (e, h) (inl refl)
in_filter p (x ∷ xs) v (inr m) h =
    by_bool (p x)
    (λ (t : p x ≡ true). rw t (inr (in_filter p xs v m h)))
    (λ (t : p x ≡ false). rw t (in_filter p xs v m h))

pub filter_in : {A : Type 0} (p : A → Bool) (xs : List A) (v : A) → In v (filter p xs) → In v xs × (p v ≡ true)
filter_in p [] v m = absurd m
filter_in p (x ∷ xs) v m = by_bool (p x) (passes (filter_in p xs v)) (fails (filter_in p xs v))
  where
    later : In v xs × (p v ≡ true) → In v (x ∷ xs) × (p v ≡ true)
    later r = (inr r.0, r.1)

    passes : (In v (filter p xs) → In v xs × (p v ≡ true)) → p x ≡ true → In v (x ∷ xs) × (p v ≡ true)
    passes ih t =
        let k : In v (x ∷ filter p xs) = rw t at m in
        ⊎_elim (λ (e : x ≡ v). (inl e, rw e at t)) (λ i. later (ih i)) k

    fails : (In v (filter p xs) → In v xs × (p v ≡ true)) → p x ≡ false → In v (x ∷ xs) × (p v ≡ true)
    fails ih t = later (ih (rw t at m))

pub in_map : {A B : Type 0} (f : A → B) (xs : List A) (v : A) → In v xs → In (f v) (map f xs)
in_map f [] v m = absurd m
in_map f (x ∷ xs) v (inl e) = inl (ap f e)
in_map f (x ∷ xs) v (inr m) = inr (in_map f xs v m)

pub map_in : {A B : Type 0} (f : A → B) (xs : List A) (y : B) → In y (map f xs) → (v : A) × In v xs × (f v ≡ y)
map_in f [] y m = absurd m
map_in f (x ∷ xs) y (inl e) = (x, inl refl, e)
map_in f (x ∷ xs) y (inr m) = let r = map_in f xs y m in (r.0, inr r.1, r.2)

pub in_get_or : {A : Type 0} (xs : List A) (i : ℕ) (d : A) → i < length xs → In (get_or xs i d) xs
in_get_or [] i d h = absurd (omega arith)
in_get_or (x ∷ xs) zero d h = inl refl
in_get_or (x ∷ xs) (suc i) d h = inr (in_get_or xs i d (omega arith))

pub get_or_in : {A : Type 0} (xs : List A) (d v : A) → In v xs → (i : ℕ) × (i < length xs) × (get_or xs i d ≡ v)
get_or_in [] d v m = absurd m
get_or_in (x ∷ xs) d v (inl e) = (0, omega arith, e)
get_or_in (x ∷ xs) d v (inr m) = let r = get_or_in xs d v m in (suc r.0, omega arith, r.2)

-- lists with no element twice
pub distinct_snoc : {A : Type 0} (v : A) (xs : List A) → Distinct xs → (In v xs → ⊥) → Distinct (xs ++ (v ∷ []))
distinct_snoc v [] d h = ((λ z. z), tt)
distinct_snoc v (x ∷ xs) d h =
    ((λ m. ⊎_elim d.0 (λ k. ⊎_elim (λ e. h (inl (sym e))) (λ z. z) k) (in_append x xs (v ∷ []) m)), distinct_snoc v xs d.1 (λ m. h (inr m)))

pub distinct_filter : {A : Type 0} (p : A → Bool) (xs : List A) → Distinct xs → Distinct (filter p xs)
distinct_filter p [] d = tt
distinct_filter p (x ∷ xs) d =
    by_bool (p x)
    (λ (t : p x ≡ true). rw t ((λ m. d.0 (filter_in p xs x m).0), distinct_filter p xs d.1))
    (λ (t : p x ≡ false). rw t (distinct_filter p xs d.1))

pub distinct_map : {A B : Type 0} (f : A → B) (xs : List A) → Distinct xs → ((u v : A) → In u xs → In v xs → f u ≡ f v → u ≡ v) → Distinct (map f xs)
distinct_map f [] d inj = tt
distinct_map {A} f (x ∷ xs) d inj = (fresh, distinct_map f xs d.1 (λ u v i j. inj u v (inr i) (inr j)))
  where
    fresh : In (f x) (map f xs) → ⊥
    fresh m =
        let r = map_in f xs (f x) m in
        d.0 (subst (λ (u : A). In u xs) (inj r.0 x (inr r.1) (inl refl) r.2) r.1)

-- counts
pub count_all : {A : Type 0} (xs : List A) → count (λ x. true) xs ≡ length xs
count_all [] = refl
count_all (x ∷ xs) = let h = count_all xs in omega arith

pub count_le_length : {A : Type 0} (p : A → Bool) (xs : List A) → count p xs ≤ length xs
count_le_length p [] = omega arith
count_le_length p (x ∷ xs) =
    let h = count_le_length p xs in
    by_bool (p x) (λ (t : p x ≡ true). rw t (omega arith)) (λ (t : p x ≡ false). rw t (omega arith))

pub count_ext : {A : Type 0} (p q : A → Bool) (xs : List A) → ((v : A) → In v xs → p v ≡ q v) → count p xs ≡ count q xs
count_ext p q [] h = refl
count_ext p q (x ∷ xs) h = cc (h x (inl refl), count_ext p q xs (λ v m. h v (inr m)))

pub count_none : {A : Type 0} (p : A → Bool) (xs : List A) → count p xs ≡ 0 → (v : A) → In v xs → p v ≡ false
count_none p [] h v m = absurd m
count_none p (x ∷ xs) h v (inl e) =
    by_bool (p x) (λ (t : p x ≡ true). let k = rw t at h in absurd (omega arith)) (λ (t : p x ≡ false). rw e at t)
count_none p (x ∷ xs) h v (inr m) = count_none p xs (omega arith) v m

pub none_count : {A : Type 0} (p : A → Bool) (xs : List A) → ((v : A) → In v xs → p v ≡ false) → count p xs ≡ 0
none_count p [] h = refl
none_count p (x ∷ xs) h = rw (h x (inl refl)) (omega (arith, none_count p xs (λ v m. h v (inr m))))

-- a test that no two elements pass is passed by one element at the most
pub count_at_most_one : {A : Type 0} (p : A → Bool) → ((u v : A) → p u ≡ true → p v ≡ true → u ≡ v) → (xs : List A) → Distinct xs → count p xs ≤ 1
count_at_most_one p only [] d = omega arith
count_at_most_one {A} p only (x ∷ xs) d =
    by_bool (p x)
    (λ (t : p x ≡ true). rw t (omega (arith, none_count p xs (λ v m. not_true_false (p v) (λ e. d.0 (subst (λ (u : A). In u xs) (only v x e t) m))))))
    (λ (t : p x ≡ false). rw t (omega (arith, count_at_most_one p only xs d.1)))

pub count_map : {A B : Type 0} (p : B → Bool) (f : A → B) (xs : List A) → count p (map f xs) ≡ count (λ x. p (f x)) xs
count_map p f [] = refl
count_map p f (x ∷ xs) = let h = count_map p f xs in omega arith

pub count_filter : {A : Type 0} (p q : A → Bool) (xs : List A) → count p (filter q xs) ≡ count (λ x. q x && p x) xs
count_filter p q [] = refl
count_filter p q (x ∷ xs) =
    let h = count_filter p q xs in
    by_bool (q x) (λ (t : q x ≡ true). rw t (omega arith)) (λ (t : q x ≡ false). rw t (omega arith))

-- one passes: there it is, and no other does
abbrev pub Only : {A : Type 0} (p : A → Bool) (xs : List A) → Type 0
Only {A} p xs = (i : A) × In i xs × (p i ≡ true) × ((j : A) → In j xs → p j ≡ true → i ≡ j)

pub count_one : {A : Type 0} (p : A → Bool) (xs : List A) → count p xs ≡ 1 → Only p xs
count_one p [] h = absurd (omega arith)
count_one {A} p (x ∷ xs) h = by_bool (p x) here (later (count_one p xs))
  where
    here : p x ≡ true → Only p (x ∷ xs)
    here t =
        let z : count p xs ≡ 0 = let k = rw t at h in omega arith in
        let only : (j : A) → In j (x ∷ xs) → p j ≡ true → x ≡ j = λ j m e. ⊎_elim (λ e. e) (λ k. true_not_false (p j) e (count_none p xs z j k)) m in
        (x, inl refl, t, only)

    later : (count p xs ≡ 1 → Only p xs) → p x ≡ false → Only p (x ∷ xs)
    later ih f =
        let r : Only p xs = ih (let k = rw f at h in omega arith) in
        let only : (j : A) → In j (x ∷ xs) → p j ≡ true → r.0 ≡ j = λ j m e. ⊎_elim (λ (g : x ≡ j). true_not_false (p j) e (rw g at f)) (λ k. r.3 j k e) m in
        (r.0, inr r.1, r.2, only)

-- two tests that agree but at one element
pub count_more : {A : Type 0} (p q : A → Bool) (i : A) (xs : List A) → Distinct xs → In i xs → p i ≡ true → q i ≡ false
    → ((j : A) → In j xs → (i ≡ j → ⊥) → p j ≡ q j) → count p xs ≡ suc (count q xs)
count_more p q i [] d m h k e = absurd m
count_more {A} p q i (x ∷ xs) d (inl f) h k e =
    let s : count p xs ≡ count q xs = count_ext p q xs (λ j m. e j (inr m) (λ g. d.0 (subst (λ (y : A). In y xs) (sym (f ∙ g)) m))) in
    rw (f, h, k) (omega arith)
count_more {A} p q i (x ∷ xs) d (inr m) h k e =
    let s : count p xs ≡ suc (count q xs) = count_more p q i xs d.1 m h k (λ j n. e j (inr n)) in
    let t : p x ≡ q x = e x (inl refl) (λ g. d.0 (subst (λ (y : A). In y xs) g m)) in
    rw t (omega arith)

-- THE PIGEONHOLE: a list of distinct elements of another has no more that pass a test
without : {A : Type 0} (v : A) (xs : List A) → In v xs → List A
without v [] m = []
without v (x ∷ xs) (inl e) = xs
without v (x ∷ xs) (inr m) = x ∷ without v xs m

in_without : {A : Type 0} (u v : A) (xs : List A) (m : In v xs) → (v ≡ u → ⊥) → In u xs → In u (without v xs m)
unfolding without
in_without u v [] m h k = k
in_without u v (x ∷ xs) (inl e) h (inl f) = absurd (h (sym e ∙ f))
in_without u v (x ∷ xs) (inl e) h (inr k) = k
in_without u v (x ∷ xs) (inr m) h (inl f) = inl f
in_without u v (x ∷ xs) (inr m) h (inr k) = inr (in_without u v xs m h k)

count_without : {A : Type 0} (p : A → Bool) (v : A) (xs : List A) (m : In v xs) → count p xs ≡ one (p v) + count p (without v xs m)
unfolding without
count_without p v [] m = absurd m
count_without p v (x ∷ xs) (inl e) = rw e refl
count_without p v (x ∷ xs) (inr m) = let h = count_without p v xs m in omega arith

pub count_le : {A : Type 0} (p : A → Bool) (cs ds : List A) → Distinct cs → ((v : A) → In v cs → In v ds) → count p cs ≤ count p ds
count_le p [] ds d sub = omega arith
count_le {A} p (c ∷ cs) ds d sub =
    let m : In c ds = sub c (inl refl) in
    let h : count p ds ≡ one (p c) + count p (without c ds m) = count_without p c ds m in
    let ih : count p cs ≤ count p (without c ds m) =
    count_le p cs (without c ds m) d.1 (λ v k. in_without v c ds m (λ e. d.0 (subst (λ (u : A). In u cs) (sym e) k)) (sub v (inr k))) in
    omega arith

pub length_le : {A : Type 0} (cs ds : List A) → Distinct cs → ((v : A) → In v cs → In v ds) → length cs ≤ length ds
length_le cs ds d sub = let h = count_le (λ x. true) cs ds d sub in omega (arith, count_all cs, count_all ds)

-- the test of equal lists
pub same_eq : {A : Type 0} (eq : A → A → Bool) → ((x y : A) → eq x y ≡ true → x ≡ y) → (xs ys : List A) → same eq xs ys ≡ true → xs ≡ ys
same_eq eq sound [] [] h = refl
same_eq eq sound [] (y ∷ ys) h = true_not_false false h refl
same_eq eq sound (x ∷ xs) [] h = true_not_false false h refl
same_eq eq sound (x ∷ xs) (y ∷ ys) h =
    cc (sound x y (and_left (eq x y) (same eq xs ys) h), same_eq eq sound xs ys (and_right (eq x y) (same eq xs ys) h))

pub same_self : {A : Type 0} (eq : A → A → Bool) → ((x : A) → eq x x ≡ true) → (xs : List A) → same eq xs xs ≡ true
same_self eq self [] = refl
same_self eq self (x ∷ xs) = and_both (eq x x) (same eq xs xs) (self x) (same_self eq self xs)

-- a count with one element more at the end
pub count_snoc : {A : Type 0} (p : A → Bool) (xs : List A) (x : A) → count p (xs ++ (x ∷ [])) ≡ count p xs + one (p x)
count_snoc p [] x = omega arith
count_snoc p (y ∷ ys) x = omega (arith, count_snoc p ys x)
