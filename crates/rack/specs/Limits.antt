-- How large a rack may be, how many callers share it, how far its traffic is counted, and the lengths of the buffers that planning is lent.
-- Assumes nothing: these are definitions.
use Rattle.std.specs.Prelude.{ℕ}

abbrev pub most_cards : ℕ
most_cards = 256

abbrev pub most_links : ℕ
most_links = 2048

abbrev pub most_columns : ℕ
most_columns = 255

-- callers 0 to 15
abbrev pub most_callers : ℕ
most_callers = 16

-- a traffic count is 32 bits wide
abbrev pub most_traffic : ℕ
most_traffic = 4294967295

-- four words a card
abbrev pub lent_words : ℕ
lent_words = 1024

-- a byte for each two cards
abbrev pub lent_hops : ℕ
lent_hops = 65536

-- the largest plan
abbrev pub lent_plan : ℕ
lent_plan = 16390
