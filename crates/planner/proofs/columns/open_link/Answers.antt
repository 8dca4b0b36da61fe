-- A link whose ends differ opens no column, and another one opens its own where there is room. Assumes nothing.
use mathlib.Core.Path.{◌≡◌}
use mathlib.Core.List.{List}
use Prim.Native.Nat.{ℕ, ◌<◌}
use Rattle.std.proofs.Common.{rules}
use Rattle.rack.specs.Formed.{Formed}
use Rattle.rack.specs.Wiring.{link_at}
use Rattle.rack.specs.WiringFile.{file_wiring}
use Rattle.survey.specs.Tables.{HopsIn}
use Rattle.planner.specs.OpenColumns.{ColumnsOpened}
use Rattle.planner.proofs.LinkColumns.{AtLink, link_separated, link_full, link_free, link_added}
use Rattle.planner.proofs.columns.open_link.Goals as goal

at_link : {bs h ws : List ℕ} {n m i k p q : ℕ}
    → Formed bs n m → HopsIn (file_wiring bs) h → (i < m) × ColumnsOpened (file_wiring bs) n i ws k
    → p ≡ (link_at (file_wiring bs) i).first → q ≡ (link_at (file_wiring bs) i).second → AtLink bs h ws n m i k p q
at_link f t r first second = record { formed = f; inside = r.0; hops = t; before = r.1; first = first; second = second }

pub returns-then-words_differ : goal.returns-then-words_differ
returns-then-words_differ c =
    link_separated (at_link c.args.file.formed.formed c.args.file.measured c.requires c.ends-p.ensures.first c.ends-p.ensures.second) (c.words_differ.ensures.differ c.if-words_differ.true)

pub returns-then-file-k : goal.returns-then-file-k
returns-then-file-k c =
    link_full (at_link c.args.file.formed.formed c.args.file.measured c.requires c.ends-p.ensures.first c.ends-p.ensures.second)
    (c.words_differ.ensures.same c.if-words_differ.false) c.if-file-k.true

pub add_column-requires : goal.add_column-requires
add_column-requires c =
    let free = link_free (at_link c.args.file.formed.formed c.args.file.measured c.requires c.ends-p.ensures.first c.ends-p.ensures.second) in search rules

pub returns : goal.returns
returns c =
    link_added (at_link c.args.file.formed.formed c.args.file.measured c.requires c.ends-p.ensures.first c.ends-p.ensures.second)
    (c.words_differ.ensures.same c.if-words_differ.false) c.if-file-k.false _ c.add_column.ensures
