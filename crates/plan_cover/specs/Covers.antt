-- The sets of cards that the cards cover, in four words each, as the code holds them. Assumes nothing: these are definitions.
use Rattle.std.specs.Prelude.{◌≡◌, Bool, true, cond, ◌≢◌, List, ℕ, ◌+◌, ◌*◌, ◌-◌, ◌<◌, eqb, length, get_or}
use Rattle.std.specs.Int.Bits.{bit_or}
use Rattle.rack.specs.Limits.{lent_words}
use Rattle.rack.specs.Lists.{differ, all, range}
use Rattle.rack.specs.Wiring.{Link}
use Rattle.card_sets.specs.Sets.{set_word}
use Rattle.plan_tests.specs.Tests.{crossed, covers}

-- word t of the set of all cards
unfoldable pub full_word : (n t : ℕ) → ℕ
full_word n t = set_word n (λ b. true) t

-- the cards on the far side of a link, seen from card a: those that differ from a in the column that it crosses
unfoldable pub far_side : (k : ℕ) → (rows : ℕ → ℕ → Bool) → (a : ℕ) → Link → (b : ℕ) → Bool
far_side k r a l b = differ (r a (crossed k r l)) (r b (crossed k r l))

-- four words a card hold what the cards below n cover over these links
pub record CoverWords (n k : ℕ) (rows : ℕ → ℕ → Bool) (ls : List Link) (ws : List ℕ) : Type 0 where
  pub long : length ws ≡ lent_words
  pub is : (a t : ℕ) → a < n → t < 4 → get_or ws (4 * a + t) 0 ≡ set_word n (covers k rows ls a) t

-- the far sides of a link are joined to the sets of its ends
pub record SidesJoined (n k : ℕ) (rows : ℕ → ℕ → Bool) (l : Link) (old new : List ℕ) : Type 0 where
  pub long : length new ≡ length old
  pub first : (t : ℕ) → t < 4 → get_or new (4 * l.first + t) 0 ≡ bit_or (get_or old (4 * l.first + t) 0) (set_word n (far_side k rows l.first l) t)
  pub second : (t : ℕ) → t < 4 → get_or new (4 * l.second + t) 0 ≡ bit_or (get_or old (4 * l.second + t) 0) (set_word n (far_side k rows l.second l) t)
  pub others : (a t : ℕ) → t < 4 → l.first ≢ a → l.second ≢ a → get_or new (4 * a + t) 0 ≡ get_or old (4 * a + t) 0

-- every card's set is full
unfoldable pub words_full : (n : ℕ) → List ℕ → Bool
words_full n ws = all (λ a. all (λ t. eqb (get_or ws (4 * a + t) 0) (full_word n t)) (range 4)) (range n)

-- the far side of a link in word t: the words of column j, or the rest of the cards where the end has 1 in it
unfoldable pub far_word : (columns full : List ℕ) → (j : ℕ) → (rest : Bool) → (t : ℕ) → ℕ
far_word cs f j b t = cond b (get_or f t 0 - get_or cs (4 * j + t) 0) (get_or cs (4 * j + t) 0)

-- it is joined to the first `upto` words of card p, and the rest of the cards to those of card q
pub record WordsJoined (columns full : List ℕ) (p q j : ℕ) (rest : Bool) (old new : List ℕ) (upto : ℕ) : Type 0 where
  pub long : length new ≡ length old
  pub first : (t : ℕ) → t < upto → get_or new (4 * p + t) 0 ≡ bit_or (get_or old (4 * p + t) 0) (far_word columns full j rest t)
  pub second : (t : ℕ) → t < upto → get_or new (4 * q + t) 0 ≡ bit_or (get_or old (4 * q + t) 0) (get_or full t 0 - far_word columns full j rest t)
  pub others : (x : ℕ) → ((t : ℕ) → t < upto → x ≢ 4 * p + t) → ((t : ℕ) → t < upto → x ≢ 4 * q + t) → get_or new x 0 ≡ get_or old x 0

-- the set of all cards
abbrev pub FullWords : (n : ℕ) → List ℕ → Type 0
FullWords n f = (t : ℕ) → t < 4 → get_or f t 0 ≡ full_word n t

-- four words a card hold that card alone
pub record SingleWords (n : ℕ) (ws : List ℕ) : Type 0 where
  pub long : length ws ≡ lent_words
  pub is : (a t : ℕ) → a < n → t < 4 → get_or ws (4 * a + t) 0 ≡ set_word n (eqb a) t
