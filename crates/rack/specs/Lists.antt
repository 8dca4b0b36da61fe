-- Counts, sums, searches and tables over lists and numbers. Assumes nothing: these are definitions.
use Rattle.std.specs.Prelude.{◌≡◌, Bool, true, false, ◌&&◌, ◌||◌, not, cond, List, [], ◌∷◌, ◌++◌, Option, None, Some, ℕ, zero, suc, ◌+◌, ◌<◌}

-- two bits differ
abbrev pub differ : (x y : Bool) → Bool
differ true y = not y
differ false y = y

abbrev pub one : Bool → ℕ
one b = cond b 1 0

-- how many elements pass the test
abbrev pub count : {A : Type 0} → (A → Bool) → List A → ℕ
count p [] = 0
count p (x ∷ xs) = one (p x) + count p xs

abbrev pub all : {A : Type 0} → (A → Bool) → List A → Bool
all p [] = true
all p (x ∷ xs) = p x && all p xs

abbrev pub any : {A : Type 0} → (A → Bool) → List A → Bool
any p [] = false
any p (x ∷ xs) = p x || any p xs

abbrev pub filter : {A : Type 0} → (A → Bool) → List A → List A
filter p [] = []
filter p (x ∷ xs) = cond (p x) (x ∷ filter p xs) (filter p xs)

-- f 0, f 1, .. f (n - 1)
abbrev pub tabulate : {A : Type 0} → (n : ℕ) → (ℕ → A) → List A
tabulate zero f = []
tabulate (suc n) f = f 0 ∷ tabulate n (λ i. f (suc i))

-- the numbers below n
abbrev pub range : (n : ℕ) → List ℕ
range n = tabulate n (λ i. i)

-- f 0, f 1, .. f (n - 1) joined
abbrev pub blocks : {A : Type 0} → (n : ℕ) → (ℕ → List A) → List A
blocks zero f = []
blocks (suc n) f = f 0 ++ blocks n (λ i. f (suc i))

-- the sum of a list
unfoldable pub sum : List ℕ → ℕ
sum [] = 0
sum (x ∷ xs) = x + sum xs

-- the lowest number below n that passes the test, n if none does
abbrev pub lowest : (n : ℕ) → (ℕ → Bool) → ℕ
lowest zero p = 0
lowest (suc n) p = let later = suc (lowest n (λ i. p (suc i))) in cond (p 0) 0 later

-- the place x below n, where it was looked for: none exactly where x is the end, n
abbrev pub FoundBelow : (n x : ℕ) → Option ℕ → Type 0
FoundBelow n x None = x ≡ n
FoundBelow n x (Some i) = (i ≡ x) × (i < n)

-- equal lists, by a test of their elements
abbrev pub same : {A : Type 0} → (A → A → Bool) → (xs ys : List A) → Bool
same eq [] [] = true
same eq [] (y ∷ ys) = false
same eq (x ∷ xs) [] = false
same eq (x ∷ xs) (y ∷ ys) = eq x y && same eq xs ys
