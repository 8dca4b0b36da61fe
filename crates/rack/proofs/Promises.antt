-- The promises of specs/Promises.antt, proved. Assumes nothing.
use mathlib.Core.Path.{◌≡◌, refl, sym, ◌∙◌}
use mathlib.Core.Bool.{Bool}
use mathlib.Core.Logic.{◌⊎◌, ⊎_elim}
use Prim.Native.Nat.{ℕ}
use native.Mathlib.Omega.{arith}
use lib.Dec.{leb, eqb}
use lib.ListN.{length}
use borrow.Author.Tests.{le-leb, eq-eqb}
use Rattle.rack.specs.Wiring.{link_count}
use Rattle.rack.specs.Hops.{hops, is_path}
use Rattle.rack.specs.Columns.{same_column, columns, column_count, address, Embedding}
use Rattle.rack.specs.Refusals.{refusal, link_fault, links_refusal, well_formed, rack_refusal}
use Rattle.rack.specs.WiringFile.{file_wiring, sizes_fault, form_refusal, file_refusal}
use Rattle.rack.specs.Embeddings.{times}
use Rattle.rack.specs.Promises.{HopsFewest, ConnectedPaths, NoTies, CardZeroZeros, AddressesEmbed, NoAddresses}
use Rattle.rack.specs.Promises.{EmbeddingUnique, ChoicesAsRows, ColumnsOnce, FewColumns, SizesInRange, LinksJoin, OddLoop, FileAsWiring}
use Rattle.rack.proofs.Logic.{not_true_false, and_both}
use Rattle.rack.proofs.Lists.{count_at_most_one}
use Rattle.rack.proofs.Paths.{path_cards, cards_path}
use Rattle.rack.proofs.Hops.{hops_le, hops_path, path_hops, path_below, connected_all, zero_connected}
use Rattle.rack.proofs.Columns.{same_column_eq, columns_distinct, address_zero}
use Rattle.rack.proofs.Uniqueness.{reduced_count, reduced_length}
use Rattle.rack.proofs.Refusals.{or_else_clear, or_else_second, lowest_fault_none, lowest_fault_clear}
use Rattle.rack.proofs.Refusals.{link_fault_clear, link_fault_few, clear_link_fault, well_formed_rack}
use Rattle.rack.proofs.Acceptance.{accepted_embedding, embedding_accepted, connected_number, ten_level, level_ten}
use Rattle.rack.proofs.Choices
use Rattle.rack.proofs.FewColumns
use Rattle.rack.proofs.Parity.{no_tie}
use Rattle.rack.proofs.WiringFile.{wiring_at_cards, sizes_clear, sized_clear, file_wiring_bytes}

pub hops_fewest : HopsFewest
unfolding HopsFewest
hops_fewest w a b h = (
  (λ cs p. path_hops w (length cs) a b (cards_path w cs a b p)),
  (λ l. path_cards w (hops w a b) a b (hops_path w a b l)),
  (λ e cs. not_true_false (is_path w a cs b) (λ p. let l = path_below w (length cs) a b h (cards_path w cs a b p) in omega arith)),
  hops_le w a b,
)

pub connected_paths : ConnectedPaths
unfolding ConnectedPaths
connected_paths w = (
  (λ c a b ha hb. let p = path_cards w (hops w a b) a b (hops_path w a b (connected_all w c a b ha hb)) in (p.0, p.1)),
  λ each. zero_connected w (λ c h. let p = each c h in path_below w (length p.0) 0 c (omega arith) (cards_path w p.0 0 c p.1)),
)

pub no_ties : NoTies
unfolding NoTies
no_ties w p q c f h even e l = no_tie w (well_formed_rack w f h) even p q c e l

pub card_zero_zeros : CardZeroZeros
unfolding CardZeroZeros
card_zero_zeros w j = address_zero w j

pub addresses_embed : AddressesEmbed
unfolding AddressesEmbed
addresses_embed w h = (accepted_embedding w h).1

pub no_addresses : NoAddresses
unfolding NoAddresses
no_addresses w f c = (none, some)
  where
    none : ((rack_refusal w).number ≡ 10) ⊎ ((rack_refusal w).number ≡ 11) → (k : ℕ) (r : ℕ → ℕ → Bool) → Embedding w k r → ⊥
    none d k r m = let e : (rack_refusal w).number ≡ 0 = rw (embedding_accepted w (well_formed_rack w f c) k r m) refl in ⊎_elim (λ t. omega arith) (λ t. omega arith) d

    some : ((k : ℕ) (r : ℕ → ℕ → Bool) → Embedding w k r → ⊥) → ((rack_refusal w).number ≡ 10) ⊎ ((rack_refusal w).number ≡ 11)
    some n = ⊎_elim (λ e. absurd (n (column_count w) (address w) (accepted_embedding w e).1)) (λ d. d) (connected_number w c)

pub embedding_unique : EmbeddingUnique
unfolding EmbeddingUnique times column_count
embedding_unique w k r f c m =
    let rack = well_formed_rack w f c in
    (reduced_length w rack k r m, λ d. reduced_count w rack k r m (same_column d))

pub columns_once : ColumnsOnce
unfolding ColumnsOnce times
columns_once w c = count_at_most_one (same_column c) (λ d e h k. sym (same_column_eq c d h) ∙ same_column_eq c e k) (columns w) (columns_distinct w)

pub few_columns : FewColumns
unfolding FewColumns
few_columns w f h = let a = accepted_embedding w h in omega (arith, FewColumns.few_columns w (well_formed_rack w f a.0) a.1)

pub sizes_in_range : SizesInRange
unfolding SizesInRange
sizes_in_range bs = (
  (λ h. let z = sizes_clear bs h in (z.some, z.cards, z.links, z.long)),
  λ z. sized_clear bs (record { head = omega (arith, z.3); some = z.0; cards = z.1; links = z.2; long = z.3 }),
)

pub links_join : LinksJoin
unfolding LinksJoin links_refusal
links_join w = (
  (λ h i l.
      let z = lowest_fault_clear (link_count w) (link_fault w) h i l in
      let j = link_fault_clear w i z in (j.0, j.1, j.2, link_fault_few w i z)),
  λ each. rw (lowest_fault_none (link_count w) (link_fault w) (λ i l. let j = each i l in clear_link_fault w i (j.0, j.1, j.2) j.3)) refl,
)

pub odd_loop : OddLoop
unfolding OddLoop
odd_loop w c = (ten_level w c, level_ten w c)

pub file_as_wiring : FileAsWiring
unfolding FileAsWiring form_refusal file_refusal well_formed
file_as_wiring bs h =
    let a = or_else_clear (refusal (sizes_fault bs) 0) (links_refusal (file_wiring bs)) h in
    let z = sizes_clear bs a.0 in (
      and_both (leb 1 (file_wiring bs).cards) (eqb (links_refusal (file_wiring bs)).number 0)
          (le-leb 1 (file_wiring bs).cards (omega (arith, wiring_at_cards 4 bs, z.some))) (eq-eqb (links_refusal (file_wiring bs)).number 0 a.1),
      or_else_second (form_refusal bs) (rack_refusal (file_wiring bs)) h,
      λ b. file_wiring_bytes bs b z,
    )

pub choices_as_rows : ChoicesAsRows
choices_as_rows = Choices.choices_as_rows
