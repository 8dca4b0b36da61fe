-- Conference cards: on a shortest path between each two of three cards, a median of three nodes. Assumes nothing: these are definitions.
-- Quotations: docs/REQUIREMENTS.md.
use Rattle.std.specs.Prelude.{◌≡◌, Bool, true, ◌&&◌, ◌||◌, cond, List, ◌∷◌, ◌⊎◌, ◌↔◌, ℕ, ◌+◌, ◌<◌, ltb, leb, eqb, length, Option, None, Some, unwrap_or, Result, Ok, Err}
use Rattle.rack.specs.Lists.{differ, one, any, lowest}
use Rattle.rack.specs.Wiring.{Wiring}
use Rattle.rack.specs.Hops.{hops, is_path}
use Rattle.rack.specs.PlanFile.{plan_cards, plan_columns, plan_wiring, plan_bit}
use Rattle.rack.specs.Refused.{refusal_of}
use Rattle.rack.specs.declared.refused.Refused.{Refused}
use Rattle.reader.specs.Plan.{plan_refusal}

-- "lies on a shortest way between" a and b: some path of the fewest links has card x on it
abbrev pub OnShortest : Wiring → (a x b : ℕ) → Type 0
OnShortest w a x b = (cs : List ℕ) × (is_path w a cs b ≡ true) × (length cs ≡ hops w a b) × (any (eqb x) (a ∷ cs) ≡ true)

-- .. "between each two of them"
abbrev pub OnAllThree : Wiring → (a b c x : ℕ) → Type 0
OnAllThree w a b c x = OnShortest w a x b × OnShortest w a x c × OnShortest w b x c

-- the same tests by sums of hops (`BetweenMeans`)
unfoldable pub between : Wiring → (a x b : ℕ) → Bool
between w a x b = eqb (hops w a x + hops w x b) (hops w a b)

unfoldable pub median : Wiring → (a b c x : ℕ) → Bool
median w a b c x = between w a x b && between w a x c && between w b x c

-- the lowest card that passes; where none does, the number of cards
unfoldable pub conference : Wiring → (a b c : ℕ) → ℕ
conference w a b c = lowest w.cards (median w a b c)

-- the bit that at least two of three have: where two differ, the third decides
abbrev pub majority : (x y z : Bool) → Bool
majority x y z = cond (differ x y) z x

-- a refusal that comes before it, then 14: a card number is n or more
unfoldable pub three_refusal : (before n : ℕ) → (a b c : ℕ) → ℕ
three_refusal x n a b c = cond (eqb x 0) (cond (leb n a || leb n b || leb n c) 14 0) x

-- 12, 13, 14
unfoldable pub conference_refusal : List ℕ → (a b c : ℕ) → ℕ
conference_refusal ps a b c = three_refusal (plan_refusal ps) (plan_cards ps) a b c

-- a refusal's number, 0 for none; 1 and the card, or 0 and 0 where there is none
pub record Conference : Type 0 where
  pub number : ℕ
  pub found : ℕ
  pub card : ℕ

-- what a call answers that gives a card or none
abbrev pub found_of : Option ℕ → ℕ
found_of None = 0
found_of (Some x) = 1

abbrev pub conference_of : Result (Option ℕ) Refused → Conference
conference_of (Ok o) = record { number = 0; found = found_of o; card = unwrap_or o 0 }
conference_of (Err e) = record { number = (refusal_of e).number; found = 0; card = 0 }

-- 1 and the card, or 0 and 0 for "none"; zeros with a refusal
pub record ConferenceIs (refused : ℕ) (ps : List ℕ) (a b c : ℕ) (r : Conference) : Type 0 where
  pub number : r.number ≡ refused
  pub found : r.found ≡ cond (eqb r.number 0) (one (ltb (conference (plan_wiring ps) a b c) (plan_cards ps))) 0
  pub card : r.card ≡ cond (eqb r.found 1) (conference (plan_wiring ps) a b c) 0

abbrev pub ConferenceSays : List ℕ → (a b c : ℕ) → Conference → Type 0
ConferenceSays ps a b c r = ConferenceIs (conference_refusal ps a b c) ps a b c r

-- on a plan that was read, a card on all three kinds of way: "there is never more than one", "its address takes in each column the bit that
-- at least two callers have"; and "'none' is said exactly if no card lies on all three kinds of way"
pub record CardOrNone (ps : List ℕ) (a b c : ℕ) (r : Conference) : Type 0 where
  pub either : (r.found ≡ 0) ⊎ (r.found ≡ 1)
  pub inside : r.found ≡ 1 → r.card < plan_cards ps
  pub on_all : r.found ≡ 1 → OnAllThree (plan_wiring ps) a b c r.card
  pub only : r.found ≡ 1 → (x : ℕ) → x < plan_cards ps → OnAllThree (plan_wiring ps) a b c x → x ≡ r.card
  pub bits : r.found ≡ 1 → (j : ℕ) → j < plan_columns ps →
      plan_bit ps r.card j ≡ majority (plan_bit ps a j) (plan_bit ps b j) (plan_bit ps c j)
  pub none : (r.found ≡ 0) ↔ ((x : ℕ) → x < plan_cards ps → OnAllThree (plan_wiring ps) a b c x → ⊥)
