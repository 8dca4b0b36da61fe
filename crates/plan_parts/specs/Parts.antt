-- Parts of a plan's bytes: the ends of its first links, and addresses in another number of bytes. Assumes nothing: these are definitions.
use Rattle.std.specs.Prelude.{◌≡◌, cond, List, [], ◌∷◌, ◌++◌, ℕ, ◌+◌, ◌*◌, ◌/◌, ◌%◌, ◌^◌, ◌≤◌, ltb, length, get_or, take, drop}
use Rattle.rack.specs.Limits.{most_links}
use Rattle.rack.specs.Lists.{tabulate}
use Rattle.rack.specs.PlanFile.{plan_links, plan_columns, address_size, addresses_start, address_start}

-- m is a plan's number of links, whose ends stand in its bytes
pub record LinksIn (ps : List ℕ) (m : ℕ) : Type 0 where
  pub links : m ≡ plan_links ps
  pub few : m ≤ most_links
  pub long : addresses_start m ≤ length ps

-- so many bytes from a place on
abbrev pub part : List ℕ → (start count : ℕ) → List ℕ
part ps start count = take count (drop start ps)

-- the first ends of the first i links, and their second ends
abbrev pub first_ends : List ℕ → (i : ℕ) → List ℕ
first_ends ps i = part ps 6 (2 * i)

abbrev pub second_ends : List ℕ → (i : ℕ) → List ℕ
second_ends ps i = part ps (6 + 2 * plan_links ps) (2 * i)

-- byte t of card a's address, 0 behind its last byte
unfoldable pub row_byte : List ℕ → (a t : ℕ) → ℕ
row_byte ps a t = cond (ltb t (address_size (plan_columns ps))) (get_or ps (address_start ps a + t) 0) 0

-- card a's address in the bytes of k columns: cut, or with zeros behind it
abbrev pub row : List ℕ → (k a : ℕ) → List ℕ
row ps k a = tabulate (address_size k) (row_byte ps a)

-- card a's address with a column more, in which it has 1
unfoldable pub row_with_one : List ℕ → (a : ℕ) → List ℕ
row_with_one ps a =
    let k = plan_columns ps in
    tabulate (k / 8) (row_byte ps a) ++ ((row_byte ps a (k / 8) % 2 ^ (k % 8) + 2 ^ (k % 8)) ∷ [])
