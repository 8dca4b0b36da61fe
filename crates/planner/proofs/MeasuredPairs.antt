-- The planner's test of all pairs, over the columns that it opened, decides whether the rack has an embedding. Assumes nothing.
use mathlib.Core.Path.{◌≡◌, refl, sym, ap, subst, ◌∙◌}
use mathlib.Core.Bool.{Bool, true}
use mathlib.Core.List.{List}
use Prim.Native.Nat.{ℕ, ◌≤◌, ◌<◌}
use native.Mathlib.Omega.{arith}
use lib.ListN.{length}
use Rattle.rack.specs.Wiring.{Wiring, link_count}
use Rattle.rack.specs.Hops.{hops, connected}
use Rattle.rack.specs.WiringFile.{file_wiring}
use Rattle.rack.specs.Columns.{columns, column_count, address, hamming, Embedding}
use Rattle.rack.proofs.Logic.{by_lt, by_eq}
use Rattle.rack.proofs.Hops.{hops_self, hops_sym}
use Rattle.rack.proofs.Hamming.{hamming_same, hamming_sym}
use Rattle.rack.proofs.Crossing.{Rack}
use Rattle.rack.proofs.Uniqueness.{addresses_embed}
use Rattle.rack.proofs.FewColumns.{few_columns}
use Rattle.rack.specs.Formed.{Formed}
use Rattle.survey.specs.Tables.{HopsIn}
use Rattle.survey.proofs.Forms.{formed_cards, formed_count, formed_rack}
use Rattle.planner.specs.Stages.{Addressed}
use Rattle.planner.specs.OpenColumns.{bit_in, columns_opened, WordsOf, ColumnsOpened, PairsMeasure}
use Rattle.planner.proofs.AddressWords.{words_hamming_columns}
use Rattle.planner.proofs.ColumnsOpened.{columns_opened_all}

-- THE PAIRS of cards measure exactly if the columns are an embedding
module _ (w : Wiring) (cs : List (List Bool)) (ws h : List ℕ) (s : WordsOf cs w.cards ws) (few : length cs ≤ 256) (t : HopsIn w h) where
  pairs_embed : PairsMeasure ws h w.cards → Embedding w (length cs) (bit_in cs)
  pairs_embed p a b ha hb = by_lt b a (lower a b ha) (λ u. by_eq a b diagonal (λ n. upper (omega arith)))
    where
      lower : (a b : ℕ) → a < w.cards → b < a → hamming (length cs) (bit_in cs a) (bit_in cs b) ≡ hops w a b
      lower a b ha hb = sym (words_hamming_columns cs w.cards ws s few a b ha (omega arith)) ∙ p.measured a b ha hb ∙ t.is a b ha (omega arith)

      upper : a < b → hamming (length cs) (bit_in cs a) (bit_in cs b) ≡ hops w a b
      upper u = hamming_sym (length cs) (bit_in cs a) (bit_in cs b) ∙ lower b a hb u ∙ hops_sym w b a hb ha

      diagonal : a ≡ b → hamming (length cs) (bit_in cs a) (bit_in cs b) ≡ hops w a b
      diagonal e = rw e (hamming_same (length cs) (bit_in cs b) (bit_in cs b) (λ j l. refl) ∙ sym (hops_self w b))

  embed_pairs : Embedding w (length cs) (bit_in cs) → PairsMeasure ws h w.cards
  embed_pairs m =
      record { measured = λ a b ha hb. words_hamming_columns cs w.cards ws s few a b ha (omega arith) ∙ m a b ha (omega arith) ∙ sym (t.is a b ha (omega arith)) }

-- THE DECISION, over all links' columns in the words and a table of hops
module _ (bs h : List ℕ) (n m : ℕ) (f : Formed bs n m) (whole : connected (file_wiring bs) ≡ true) (t : HopsIn (file_wiring bs) h) where
  abbrev w : Wiring
  w = file_wiring bs

  rack : Rack w
  rack = formed_rack bs n m f whole

  cards : n ≡ w.cards
  cards = sym (formed_cards bs n m f)

  links : m ≡ link_count w
  links = sym (formed_count bs n m f)

  pub full_unaddressed : n ≤ length (columns_opened w m) → Embedding w (column_count w) (address w) → ⊥
  unfolding column_count
  full_unaddressed g e =
      omega (arith, cards, g, ap (λ (i : ℕ). length (columns_opened w i)) links, ap length (columns_opened_all w rack (column_count w) (address w) e), few_columns w rack e)

  module _ (ws : List ℕ) (k : ℕ) (o : ColumnsOpened w n m ws k) where
    all_count : k ≡ length (columns_opened w (link_count w))
    all_count = rw links at o.count

    all_columns_words : WordsOf (columns_opened w (link_count w)) w.cards ws
    all_columns_words = subst (λ (v : ℕ). WordsOf (columns_opened w (link_count w)) v ws) cards (rw links at o.words)

    few : length (columns_opened w (link_count w)) ≤ 256
    few = omega (arith, f.sizes.few, o.room, all_count)

    pub measured_addressed : PairsMeasure ws h n → Addressed w ws k
    unfolding column_count
    measured_addressed p =
        record {
          embedding = addresses_embed w rack (length (columns_opened w (link_count w))) (bit_in (columns_opened w (link_count w))) embedding;
          count = all_count ∙ ap length same;
          words = rw same at all_columns_words;
        }
      where
        embedding : Embedding w (length (columns_opened w (link_count w))) (bit_in (columns_opened w (link_count w)))
        embedding = pairs_embed w (columns_opened w (link_count w)) ws h all_columns_words few t (subst (λ (v : ℕ). PairsMeasure ws h v) cards p)

        same : columns_opened w (link_count w) ≡ columns w
        same = columns_opened_all w rack (length (columns_opened w (link_count w))) (bit_in (columns_opened w (link_count w))) embedding

    pub unmeasured_unaddressed : (PairsMeasure ws h n → ⊥) → Embedding w (column_count w) (address w) → ⊥
    unfolding column_count address bit_in
    unmeasured_unaddressed p e =
        let same = columns_opened_all w rack (length (columns w)) (bit_in (columns w)) e in
        p (subst (λ (v : ℕ). PairsMeasure ws h v) (sym cards)
        (embed_pairs w (columns w) ws h (rw same at all_columns_words) (omega (arith, few, ap length same)) t e))
