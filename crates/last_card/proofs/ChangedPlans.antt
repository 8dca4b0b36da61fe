-- The bytes of plan_changer/specs/Changed.antt, made of a plan that was read: they are the planner's for the wiring with a card more and
-- without the last card. Assumes nothing.
use mathlib.Core.Path.{◌≡◌, refl, sym, ap, ap₂, ◌∙◌}
use mathlib.Core.Bool.{Bool, true, false, cond}
use mathlib.Core.Logic.{◌≢◌}
use mathlib.Core.List.{List, [], ◌∷◌, ◌++◌, append_assoc}
use Prim.Native.Nat.{ℕ, ◌+◌, ◌*◌, ◌-◌, ◌/◌, ◌%◌, ◌^◌, ◌≤◌, ◌<◌}
use native.Mathlib.Nat.{mod-eq_of_lt}
use native.Mathlib.Omega.{arith}
use lib.Dec.{eqb}
use lib.Seq.{get_or_at}
use borrow.Author.Tests.{eq-eqb, ne_eqb}
use Rattle.rack.specs.Lists.{blocks}
use Rattle.rack.specs.Buffers.{two_bytes}
use Rattle.rack.specs.Wiring.{Link, Wiring, link, link_count, link_at}
use Rattle.rack.specs.Hops.{connected}
use Rattle.rack.specs.WiringFile.{end_bytes}
use Rattle.rack.specs.Columns.{column_count, address}
use Rattle.rack.specs.PlanFile.{plan_cards, plan_links, plan_columns, plan_wiring, address_size}
use Rattle.rack.proofs.Bits.{bits_value_ext, bits_value_few, bits_value_more}
use Rattle.rack.proofs.Columns.{past_columns}
use Rattle.rack.proofs.Crossing.{Rack}
use Rattle.rack.proofs.Tables.{tabulate_ext, tabulate_snoc, blocks_ext, blocks_snoc}
use Rattle.rack.proofs.WiringFile.{wiring_at_cards, wiring_at_count}
use Rattle.planner.specs.PlanBytes.{address_bytes, plan_bytes}
use Rattle.reader.specs.Plan.{plan_refusal}
use Rattle.reader.proofs.Promises.{read_accepted, read_columns}
use Rattle.pendant.specs.Pendant.{with_card, without_card, last_hangs}
use Rattle.pendant.proofs.Hops.{Pendant, connected_removed}
use Rattle.pendant.proofs.Addresses.{count_pendant, address_old, address_new}
use Rattle.pendant.proofs.Acceptance.{count_links, link_before}
use Rattle.pendant.proofs.Hanging.{hook, pendant_added, pendant_removed}
use Rattle.plan_parts.specs.Parts.{first_ends, second_ends, row_byte, row, row_with_one}
use Rattle.plan_changer.specs.Changed.{more_bytes, fewer_bytes}
use Rattle.last_card.proofs.ReadParts.{ends, first, second, byte_of, rows}
use Rattle.last_card.proofs.ReadParts.{read_first_ends, read_second_ends, read_row_byte, read_row}

-- A PENDANT CARD changes no end of the other links and no bit of the other cards
module _ {w : Wiring} {c : ℕ} {v : Wiring} (pd : Pendant w c v) where
  ends_old : (end : Link → ℕ) (i : ℕ) → i ≤ link_count w → ends end v i ≡ ends end w i
  ends_old end i h =
      blocks_ext i (λ j. two_bytes (end (link_at v j))) (λ j. two_bytes (end (link_at w j)))
      (λ j l. ap (λ (k : Link). two_bytes (end k)) (link_before pd j (omega arith)))

  address_bytes_old : connected w ≡ true → (k a : ℕ) → a < w.cards → address_bytes k (address v a) ≡ address_bytes k (address w a)
  unfolding address_bytes
  address_bytes_old whole k a h =
      tabulate_ext (address_size k) (byte_of (address v a)) (byte_of (address w a)) (λ t l.
      bits_value_ext 8 _ _ (λ i z. address_old pd whole a (8 * t + i) h))

-- A PLAN from its parts
parts_plan : (w : Wiring) {n m k : ℕ} {es rs : List ℕ} → n ≡ w.cards → m ≡ link_count w → k ≡ column_count w → es ≡ end_bytes w → rs ≡ rows w n k
    → two_bytes n ++ two_bytes m ++ two_bytes k ++ es ++ rs ≡ plan_bytes w
unfolding plan_bytes
parts_plan w en em ek ee er = rw (er, ee, ek, em, en) refl

module _ (ps : List ℕ) (h : plan_refusal ps ≡ 0) where
  abbrev w : Wiring
  w = plan_wiring ps

  abbrev n : ℕ
  n = plan_cards ps

  abbrev m : ℕ
  m = plan_links ps

  abbrev k : ℕ
  k = plan_columns ps

  rack : Rack w
  rack = (read_accepted ps h).rack

  -- A CARD MORE
  module _ (c : ℕ) (inside : c < plan_cards ps) where
    abbrev v : Wiring
    v = with_card w c

    card_inside : c < w.cards
    card_inside = omega (arith, wiring_at_cards 6 ps)

    pub pendant_more : Pendant w c v
    pendant_more = pendant_added w c rack card_inside

    last_link : link_at v m ≡ link c n
    unfolding with_card
    last_link = get_or_at w.links (link c w.cards) [] (link 0 0) m (wiring_at_count 6 ps) ∙ ap (link c) (wiring_at_cards 6 ps)

    -- the ends: those of the old links, then the new link's
    ends_snoc : (end : Link → ℕ) → ends end v (m + 1) ≡ ends end w m ++ two_bytes (end (link c n))
    ends_snoc end =
        blocks_snoc m (λ j. two_bytes (end (link_at v j)))
        ∙ ap₂ ◌++◌ (ends_old pendant_more end m (omega (arith, wiring_at_count 6 ps))) (ap (λ (l : Link). two_bytes (end l)) last_link)

    links_more : m + 1 ≡ link_count v
    links_more = omega (arith, count_links pendant_more, wiring_at_count 6 ps)

    ends_more : first_ends ps m ++ two_bytes c ++ second_ends ps m ++ two_bytes n ≡ end_bytes v
    unfolding end_bytes
    ends_more =
        let all : m ≤ link_count w = omega (arith, wiring_at_count 6 ps) in
        append_assoc (first_ends ps m ++ two_bytes c) (second_ends ps m) (two_bytes n)
        ∙ rw (read_first_ends ps h m all, read_second_ends ps h m all, ← links_more, ends_snoc first, ends_snoc second) refl

    -- the old cards' addresses
    rows_old : blocks n (row ps (k + 1)) ≡ rows v n (k + 1)
    rows_old =
        blocks_ext n (row ps (k + 1)) (λ a. address_bytes (k + 1) (address v a)) (λ a l.
        let i : a < w.cards = omega (arith, wiring_at_cards 6 ps) in
        read_row ps h a i (k + 1) ∙ sym (address_bytes_old pendant_more rack.whole (k + 1) a i))

    -- the new card's: the bytes of c's, with 1 in column k
    new_bit : (j : ℕ) → address v n j ≡ cond (eqb j k) true (address w c j)
    new_bit j = rw (← (wiring_at_cards 6 ps), read_columns ps h) (address_new pendant_more rack.whole j)

    new_bit_other : (j : ℕ) → j ≢ k → address w c j ≡ address v n j
    new_bit_other j d = sym (new_bit j ∙ rw (ne_eqb j k d) refl)

    new_byte_other : (t : ℕ) → t < k / 8 → row_byte ps c t ≡ byte_of (address v n) t
    new_byte_other t l = read_row_byte ps h c card_inside t ∙ bits_value_ext 8 _ _ (λ i z. new_bit_other (8 * t + i) (λ e. omega arith))

    new_byte_last : row_byte ps c (k / 8) % 2 ^ (k % 8) + 2 ^ (k % 8) ≡ byte_of (address v n) (k / 8)
    new_byte_last =
        let t = k / 8 in
        let none : (j : ℕ) → k % 8 ≤ j → address w c (8 * t + j) ≡ false = λ j l. past_columns w c (8 * t + j) (omega (arith, read_columns ps h)) in
        let last : address v n (8 * t + k % 8) ≡ true = new_bit (8 * t + k % 8) ∙ rw (eq-eqb (8 * t + k % 8) k (omega arith)) refl in
        let old : ℕ → Bool = λ i. address w c (8 * t + i) in
        let new : ℕ → Bool = λ i. address v n (8 * t + i) in
        rw (read_row_byte ps h c card_inside t, mod-eq_of_lt (bits_value_few 8 old (k % 8) none))
        (sym (bits_value_more 8 old new (k % 8) (omega arith) (none (k % 8) (omega arith)) (λ j l d. new_bit_other (8 * t + j) (λ e. d (omega arith)))
        ∙ rw last (omega arith)))

    row_new : row_with_one ps c ≡ address_bytes (k + 1) (address v n)
    unfolding row_with_one address_bytes address_size
    row_new =
        let e : (k + 1 + 7) / 8 ≡ k / 8 + 1 = omega arith in
        ap₂ (λ (xs : List ℕ) (b : ℕ). xs ++ (b ∷ [])) (tabulate_ext (k / 8) (row_byte ps c) (byte_of (address v n)) new_byte_other) new_byte_last
        ∙ rw e (sym (tabulate_snoc (k / 8) (byte_of (address v n))))

    pub more_bytes_planned : more_bytes ps c ≡ plan_bytes v
    unfolding more_bytes
    more_bytes_planned =
        parts_plan v (omega (arith, pendant_more.cards, wiring_at_cards 6 ps)) links_more
        (omega (arith, count_pendant pendant_more rack.whole, read_columns ps h)) ends_more
        (ap₂ ◌++◌ rows_old row_new ∙ sym (blocks_snoc n (λ a. address_bytes (k + 1) (address v a))))

  -- THE LAST CARD LESS
  module _ (hangs : last_hangs (plan_wiring ps) ≡ true) where
    abbrev u : Wiring
    u = without_card w

    pub pendant_less : Pendant u (hook w) w
    pendant_less = pendant_removed w rack hangs

    pub whole_less : connected u ≡ true
    whole_less = connected_removed pendant_less rack.whole

    links_fewer : m - 1 ≡ link_count u
    links_fewer = omega (arith, count_links pendant_less, wiring_at_count 6 ps)

    ends_fewer : first_ends ps (m - 1) ++ second_ends ps (m - 1) ≡ end_bytes u
    unfolding end_bytes
    ends_fewer =
        let i = link_count u in
        let some : i ≤ link_count w = omega (arith, count_links pendant_less) in
        rw links_fewer
        (ap₂ ◌++◌
        (read_first_ends ps h i some ∙ ends_old pendant_less first i (omega arith))
        (read_second_ends ps h i some ∙ ends_old pendant_less second i (omega arith)))

    rows_fewer : blocks (n - 1) (row ps (k - 1)) ≡ rows u (n - 1) (k - 1)
    rows_fewer =
        blocks_ext (n - 1) (row ps (k - 1)) (λ a. address_bytes (k - 1) (address u a)) (λ a l.
        read_row ps h a (omega (arith, wiring_at_cards 6 ps)) (k - 1)
        ∙ address_bytes_old pendant_less whole_less (k - 1) a (omega (arith, pendant_less.cards, wiring_at_cards 6 ps)))

    pub fewer_bytes_planned : fewer_bytes ps ≡ plan_bytes u
    unfolding fewer_bytes
    fewer_bytes_planned =
        parts_plan u (omega (arith, pendant_less.cards, wiring_at_cards 6 ps)) links_fewer
        (omega (arith, count_pendant pendant_less whole_less, read_columns ps h)) ends_fewer rows_fewer
