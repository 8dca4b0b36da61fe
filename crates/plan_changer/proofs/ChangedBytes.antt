-- The bytes of a plan with a card more and with one less, appended part by part: they fit the lent bytes, and their length. Assumes nothing.
use mathlib.Core.Path.{◌≡◌, refl}
use mathlib.Core.List.{List, ◌++◌}
use Prim.Native.Nat.{ℕ, ◌+◌, ◌*◌, ◌-◌, ◌/◌, ◌≤◌, ◌<◌}
use native.Mathlib.Nat.{suc-mul}
use native.Mathlib.Numerals.{add-one}
use native.Mathlib.Omega.{arith}
use lib.ListN.{length, length-append}
use Rattle.rack.specs.Limits.{lent_plan, most_cards, most_links}
use Rattle.rack.specs.Lists.{tabulate, blocks}
use Rattle.rack.specs.Buffers.{two_bytes}
use Rattle.rack.specs.PlanFile.{plan_columns, address_size, addresses_start, Sized}
use Rattle.rack.proofs.Tables.{length_tabulate, length_blocks}
use Rattle.rack.proofs.WiringFile.{length_two_bytes}
use Rattle.rack.specs.declared.output.Output.{Output}
use Rattle.rack.specs.Putting.{Grows}
use Rattle.rack.proofs.Putting.{grows_then}
use Rattle.plan_writer.proofs.WrittenPlan.{head, addresses_room}
use Rattle.plan_parts.specs.Parts.{LinksIn, first_ends, second_ends, row_byte, row_with_one}
use Rattle.plan_changer.specs.Changed.{more_bytes, fewer_bytes}
use Rattle.plan_parts.proofs.CopiedEnds.{length_first_ends, length_second_ends}

module _ (ps : List ℕ) {n m k : ℕ} (z : Sized ps n m k) where
  pub links_in : LinksIn ps m
  links_in = record { links = z.links; few = z.few_links; long = omega (arith, z.long) }

  -- the addresses of the first cards, each in so many bytes
  abbrev rows : (count size : ℕ) → List ℕ
  rows count size = blocks count (λ a. tabulate size (row_byte ps a))

  pub length_rows : (count size : ℕ) → length (rows count size) ≡ count * size
  length_rows count size = length_blocks count size (λ a. tabulate size (row_byte ps a)) (λ a. length_tabulate size (row_byte ps a))

  -- A CARD MORE
  module _ (c size : ℕ) (wide : size ≡ address_size (k + 1)) where
    abbrev ends_more : List ℕ
    ends_more = first_ends ps m ++ two_bytes c ++ second_ends ps m ++ two_bytes n

    pub length_ends_more : length ends_more ≡ 4 * m + 4
    length_ends_more =
        simp length-append
        (omega (
          arith,
          length_first_ends ps m links_in m (omega arith),
          length_second_ends ps m links_in m (omega arith),
          length_two_bytes c,
          length_two_bytes n,
        ))

    pub size_more : size ≡ k / 8 + 1
    unfolding address_size
    size_more = omega (arith, wide)

    length_row_with_one : length (row_with_one ps c) ≡ size
    unfolding row_with_one
    length_row_with_one = simp length-append (omega (arith, length_tabulate (plan_columns ps / 8) (row_byte ps c), size_more, z.columns))

    rows_more : (n + 1) * size ≡ n * size + size
    rows_more = rw add-one (suc-mul n size)

    pub more_room : n < most_cards → m < most_links → size ≤ 32 → addresses_start (m + 1) + n * size + size ≤ lent_plan
    more_room few few_links h = omega (arith, rows_more, addresses_room (n + 1) size (omega arith) h)

    abbrev addresses_more : List ℕ
    addresses_more = rows n size ++ row_with_one ps c

    bytes_more : more_bytes ps c ≡ head (n + 1) (m + 1) (k + 1) ++ ends_more ++ addresses_more
    unfolding more_bytes
    bytes_more = rw (wide, z.cards, z.links, z.columns) refl

    pub more_grown : {a b d e f : Output} → Grows a b (head (n + 1) (m + 1) (k + 1)) → Grows b d ends_more → Grows d e (rows n size)
        → Grows e f (row_with_one ps c) → Grows a f (more_bytes ps c)
    more_grown p q r s = rw bytes_more (grows_then (grows_then p q) (grows_then r s))

  -- A CARD LESS
  module _ (size : ℕ) (wide : size ≡ address_size (k - 1)) where
    abbrev head_less : List ℕ
    head_less = head (n - 1) (m - 1) (k - 1)

    abbrev ends_less : List ℕ
    ends_less = first_ends ps (m - 1) ++ second_ends ps (m - 1)

    pub length_ends_less : length ends_less ≡ 4 * (m - 1)
    length_ends_less =
        simp length-append (omega (arith, length_first_ends ps m links_in (m - 1) (omega arith), length_second_ends ps m links_in (m - 1) (omega arith)))

    bytes_less : fewer_bytes ps ≡ head_less ++ ends_less ++ rows (n - 1) size
    unfolding fewer_bytes
    bytes_less = rw (wide, z.cards, z.links, z.columns) refl

    pub fewer_grown : {a b d e : Output} → Grows a b head_less → Grows b d ends_less → Grows d e (rows (n - 1) size) → Grows a e (fewer_bytes ps)
    fewer_grown p q r = rw bytes_less (grows_then (grows_then p q) r)
