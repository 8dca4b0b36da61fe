-- Cards, links and a rack's wiring: the nodes and edges of a graph. Assumes nothing: these are definitions.
use Rattle.std.specs.Prelude.{Bool, ◌&&◌, ◌||◌, cond, List, ℕ, eqb, length, get_or}
use Rattle.rack.specs.Lists.{any, filter, range}

-- a link joins its first end and its second end; which comes first has no meaning
pub record Link : Type 0 where
  pub first : ℕ
  pub second : ℕ

-- cards are numbered from 0, links by their place in the list
pub record Wiring : Type 0 where
  pub cards : ℕ
  pub links : List Link

abbrev pub link : (first second : ℕ) → Link
link p q = record { first = p; second = q }

abbrev pub wiring : (cards : ℕ) → List Link → Wiring
wiring n ls = record { cards = n; links = ls }

abbrev pub link_count : Wiring → ℕ
link_count w = length w.links

abbrev pub link_at : Wiring → (i : ℕ) → Link
link_at w i = get_or w.links i (link 0 0)

unfoldable pub joins : (a b : ℕ) → Link → Bool
joins a b l = (eqb l.first a && eqb l.second b) || (eqb l.first b && eqb l.second a)

unfoldable pub linked : Wiring → (a b : ℕ) → Bool
linked w a b = any (joins a b) w.links

unfoldable pub neighbours : Wiring → (a : ℕ) → List ℕ
neighbours w a = filter (linked w a) (range w.cards)

-- a link of card a, and the card at its other end
unfoldable pub touches : (a : ℕ) → Link → Bool
touches a l = eqb l.first a || eqb l.second a

unfoldable pub other_end : (a : ℕ) → Link → ℕ
other_end a l = cond (eqb l.first a) l.second l.first
