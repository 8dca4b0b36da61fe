-- Rows of bits that are the addresses are found: "no addresses" exactly if there are none, else every embedding reduces to their columns.
-- Assumes nothing.
use mathlib.Core.Path.{◌≡◌, sym, ap, ◌∙◌, subst}
use mathlib.Core.Bool.{Bool, true}
use mathlib.Core.List.{List, []}
use Prim.Native.Nat.{ℕ, ◌<◌, ◌≤◌}
use lib.ListN.{get_or}
use Rattle.rack.specs.Lists.{tabulate}
use Rattle.rack.specs.Wiring.{Wiring}
use Rattle.rack.specs.Hops.{connected}
use Rattle.rack.specs.Columns.{columns, column_count, address, Embedding}
use Rattle.rack.specs.Embeddings.{column_of, times}
use Rattle.rack.specs.Refusals.{Refusal, well_formed, rack_refusal}
use Rattle.rack.specs.WiringFile.{file_wiring, form_refusal, file_refusal}
use Rattle.rack.specs.Promises.{NoAddresses, AddressesEmbed, EmbeddingUnique, ColumnsOnce, FileAsWiring}
use Rattle.rack.proofs.Tables.{tabulate_ext, tabulate_get_or}
use Rattle.rack.proofs.Hamming.{hamming_ext}
use Rattle.rack.proofs.Columns.{column_of_address}
use Rattle.rack.proofs.Refusals.{well_formed_rack}
use Rattle.rack.proofs.Acceptance.{embedding_accepted}
use Rattle.rack.proofs.Promises.{no_addresses, addresses_embed, embedding_unique, columns_once, file_as_wiring}
use Rattle.planner.specs.Planning.{ReducesTo, Found}

-- THE COLUMNS of the addresses are the wiring's
module _ (w : Wiring) where
  columns_of_bits : (rows : ℕ → ℕ → Bool) → ((c j : ℕ) → c < w.cards → j < column_count w → rows c j ≡ address w c j)
      → tabulate (column_count w) (column_of w.cards rows) ≡ columns w
  unfolding column_of column_count
  columns_of_bits rows bits =
      tabulate_ext (column_count w) (column_of w.cards rows) (λ j. get_or (columns w) j [])
      (λ j h. tabulate_ext w.cards (λ c. rows c j) (λ c. address w c j) (λ c l. bits c j l h) ∙ column_of_address w j h)
      ∙ tabulate_get_or (columns w) []

-- AN ANSWER to a well-formed, connected file, with the addresses as its bits
module _ (bs : List ℕ) (form : (form_refusal bs).number ≡ 0) (whole : connected (file_wiring bs) ≡ true) (number k : ℕ) (rows : ℕ → ℕ → Bool)
    (is_refusal : number ≡ (file_refusal bs).number) (is_count : number ≡ 0 → k ≡ column_count (file_wiring bs))
    (bits : number ≡ 0 → (c j : ℕ) → c < (file_wiring bs).cards → j < column_count (file_wiring bs) → rows c j ≡ address (file_wiring bs) c j) where
  abbrev w : Wiring
  w = file_wiring bs

  formed : well_formed w ≡ true
  unfolding FileAsWiring
  formed = (file_as_wiring bs form).0

  rack_number : number ≡ (rack_refusal w).number
  unfolding FileAsWiring
  rack_number = is_refusal ∙ ap (λ (f : Refusal). f.number) (file_as_wiring bs form).1

  rows_embed : number ≡ 0 → Embedding w k rows
  unfolding AddressesEmbed
  rows_embed z a b ha hb =
      rw (is_count z)
      (hamming_ext (column_count w) (rows a) (rows b) (address w a) (address w b) (λ j l. bits z a j ha l) (λ j l. bits z b j hb l)
      ∙ addresses_embed w (sym rack_number ∙ z) a b ha hb)

  rows_columns : number ≡ 0 → tabulate k (column_of w.cards rows) ≡ columns w
  rows_columns z = rw (is_count z) (columns_of_bits w rows (bits z))

  embedding_number : (l : ℕ) (others : ℕ → ℕ → Bool) → Embedding w l others → number ≡ 0
  embedding_number l others m = rack_number ∙ ap (λ (f : Refusal). f.number) (embedding_accepted w (well_formed_rack w formed whole) l others m)

  reduces : (l : ℕ) (others : ℕ → ℕ → Bool) → Embedding w l others → number ≡ 0 → ReducesTo w.cards l others k rows
  unfolding EmbeddingUnique ColumnsOnce
  reduces l others m z =
      let u = embedding_unique w l others formed whole m in
      record {
        count = u.0 ∙ sym (is_count z);
        same = λ c. u.1 c ∙ ap (times c) (sym (rows_columns z));
        once = λ c. subst (λ (cs : List (List Bool)). times c cs ≤ 1) (sym (rows_columns z)) (columns_once w c);
      }

  pub found : Found w number k rows
  unfolding NoAddresses
  found =
      record {
        none = rw rack_number (no_addresses w formed whole);
        embedding = rows_embed;
        unique = λ l others m. let z = embedding_number l others m in (z, reduces l others m z);
      }
