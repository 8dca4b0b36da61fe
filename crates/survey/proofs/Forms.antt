-- The sizes of a file by cases, and what the stages know of a file that passed them. Assumes nothing.
use mathlib.Core.Path.{◌≡◌, refl, sym, ◌∙◌, subst}
use mathlib.Core.Bool.{true}
use mathlib.Core.List.{List}
use mathlib.Core.Logic.{◌≢◌}
use Prim.Native.Nat.{ℕ, ◌+◌, ◌*◌, ◌≤◌, ◌<◌}
use native.Mathlib.Omega.{arith}
use lib.ListN.{length}
use borrow.Author.Tests.{lt-ltb, le-ltb, le-leb, lt-leb, ne_eqb}
use Rattle.rack.specs.Wiring.{Link, link, link_count, link_at, linked}
use Rattle.rack.specs.Hops.{connected}
use Rattle.rack.specs.Refusals.{link_fault, links_refusal}
use Rattle.rack.specs.Limits.{most_cards, most_links}
use Rattle.rack.specs.Buffers.{number_at}
use Rattle.rack.specs.WiringFile.{file_wiring, sizes_fault}
use Rattle.rack.proofs.Lists.{In, in_get_or, get_or_in}
use Rattle.rack.proofs.Paths.{link_joins}
use Rattle.rack.proofs.Crossing.{Rack}
use Rattle.rack.proofs.Refusals.{JoinsCards, joined_rack, lowest_fault_clear, link_fault_clear}
use Rattle.rack.proofs.WiringFile.{wiring_at_cards, wiring_at_count}
use Rattle.rack.specs.Formed.{SizesAre, Formed}

-- 2 TO 5, each where the tests before it pass
module _ (bs : List ℕ) where
  pub sizes_short : length bs < 4 → sizes_fault bs ≡ 2
  unfolding sizes_fault
  sizes_short h = rw (lt-ltb (length bs) 4 h) refl

  pub sizes_zero_cards : 4 ≤ length bs → number_at bs 0 ≡ 0 → sizes_fault bs ≡ 3
  unfolding sizes_fault
  sizes_zero_cards h z = rw (le-ltb (length bs) 4 h, z) refl

  pub sizes_many_cards : 4 ≤ length bs → most_cards < number_at bs 0 → sizes_fault bs ≡ 3
  unfolding sizes_fault
  sizes_many_cards h many = rw (le-ltb (length bs) 4 h, le-leb 1 (number_at bs 0) (omega arith), lt-leb (number_at bs 0) most_cards many) refl

  module _ (head : 4 ≤ length bs) (some : 1 ≤ number_at bs 0) (few : number_at bs 0 ≤ most_cards) where
    pub sizes_many_links : most_links < number_at bs 2 → sizes_fault bs ≡ 4
    unfolding sizes_fault
    sizes_many_links many =
        rw (le-ltb (length bs) 4 head, le-leb 1 (number_at bs 0) some, le-leb (number_at bs 0) most_cards few, lt-ltb most_links (number_at bs 2) many) refl

    pub sizes_other_length : number_at bs 2 ≤ most_links → length bs ≢ 4 + 4 * number_at bs 2 → sizes_fault bs ≡ 5
    unfolding sizes_fault
    sizes_other_length links other =
        rw (
          le-ltb (length bs) 4 head,
          le-leb 1 (number_at bs 0) some,
          le-leb (number_at bs 0) most_cards few,
          le-ltb most_links (number_at bs 2) links,
          ne_eqb (length bs) (4 + 4 * number_at bs 2) other,
        ) refl

-- A FILE THAT PASSED
module _ (bs : List ℕ) (n m : ℕ) (sizes : SizesAre bs n m) where
  pub cards_are : (file_wiring bs).cards ≡ n
  cards_are = wiring_at_cards 4 bs ∙ sym sizes.cards

  pub links_are : link_count (file_wiring bs) ≡ m
  links_are = wiring_at_count 4 bs ∙ sym sizes.links

  pub formed : (links_refusal (file_wiring bs)).number ≡ 0 → Formed bs n m
  unfolding links_refusal
  formed h =
      record {
        sizes = sizes;
        first = λ i l. omega (arith, cards_are, (joins_cards i l).0);
        second = λ i l. omega (arith, cards_are, (joins_cards i l).1);
        apart = λ i l. (joins_cards i l).2;
      }
    where
      joins_cards : (i : ℕ) → i < m → JoinsCards (file_wiring bs) (link_at (file_wiring bs) i)
      joins_cards i l =
          link_fault_clear (file_wiring bs) i (lowest_fault_clear (link_count (file_wiring bs)) (link_fault (file_wiring bs)) h i (omega (arith, links_are)))

-- the wiring of a formed file
module _ (bs : List ℕ) (n m : ℕ) (f : Formed bs n m) where
  pub formed_cards : (file_wiring bs).cards ≡ n
  formed_cards = cards_are bs n m f.sizes

  pub formed_count : link_count (file_wiring bs) ≡ m
  formed_count = links_are bs n m f.sizes

  pub formed_few : (file_wiring bs).cards ≤ 256
  formed_few = omega (arith, formed_cards, f.sizes.few)

  pub formed_first : (i : ℕ) → i < m → (link_at (file_wiring bs) i).first < (file_wiring bs).cards
  formed_first i h = omega (arith, formed_cards, f.first i h)

  pub formed_second : (i : ℕ) → i < m → (link_at (file_wiring bs) i).second < (file_wiring bs).cards
  formed_second i h = omega (arith, formed_cards, f.second i h)

  pub formed_linked : (i : ℕ) → i < m → linked (file_wiring bs) (link_at (file_wiring bs) i).first (link_at (file_wiring bs) i).second ≡ true
  formed_linked i h =
      link_joins (file_wiring bs) (link_at (file_wiring bs) i) (in_get_or (file_wiring bs).links i (link 0 0) (omega (arith, formed_count)))

  pub formed_rack : connected (file_wiring bs) ≡ true → Rack (file_wiring bs)
  formed_rack c = joined_rack (file_wiring bs) (omega (arith, formed_cards, f.sizes.some)) joins_cards c
    where
      joins_cards : (l : Link) → In l (file_wiring bs).links → JoinsCards (file_wiring bs) l
      joins_cards l i =
          let at = get_or_in (file_wiring bs).links (link 0 0) l i in
          let h : at.0 < m = omega (arith, formed_count, at.1) in
          subst (JoinsCards (file_wiring bs)) at.2 (formed_first at.0 h, formed_second at.0 h, f.apart at.0 h)
