-- What is known of a file that passed 2 to 5, and of one that passed 6 and 7. Assumes nothing: these are definitions.
use Rattle.std.specs.Prelude.{◌≡◌, ◌≢◌, List, ℕ, ◌+◌, ◌*◌, ◌≤◌, ◌<◌, length}
use Rattle.rack.specs.Limits.{most_cards, most_links}
use Rattle.rack.specs.Buffers.{number_at}
use Rattle.rack.specs.Wiring.{link_at}
use Rattle.rack.specs.WiringFile.{file_wiring}

-- n cards and m links in a file that passed 2 to 5
pub record SizesAre (bs : List ℕ) (n m : ℕ) : Type 0 where
  pub cards : n ≡ number_at bs 0
  pub links : m ≡ number_at bs 2
  pub some : 1 ≤ n
  pub few : n ≤ most_cards
  pub few_links : m ≤ most_links
  pub long : length bs ≡ 4 + 4 * m

-- and passed 6 and 7: every link joins two different cards
pub record Formed (bs : List ℕ) (n m : ℕ) : Type 0 where
  pub sizes : SizesAre bs n m
  pub first : (i : ℕ) → i < m → (link_at (file_wiring bs) i).first < n
  pub second : (i : ℕ) → i < m → (link_at (file_wiring bs) i).second < n
  pub apart : (i : ℕ) → i < m → (link_at (file_wiring bs) i).first ≢ (link_at (file_wiring bs) i).second
