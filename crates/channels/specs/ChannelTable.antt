-- The table of channels in work: the key of a channel, and what the signals said of it.
use Rattle.std.specs.Prelude.{ℕ, ◌+◌, ◌*◌, ◌/◌, ◌<◌, ◌≤◌, ◌≡◌, Bool, true, false, List, ltb}
use Rattle.table.specs.Table.{Slot, none, some, lookup}
use Rattle.tree.specs.declared.Tree.{Tree}
use Rattle.channels.specs.Signals.{Signal, triple}
use Rattle.channels.specs.Channels.{named, admitted}

-- 2 * link + direction and the CID, in one number
unfoldable pub channel_key : ℕ → ℕ → ℕ → ℕ
channel_key link rx cid = (2 * link + rx) * 65536 + cid

-- where the channels stand in work, with q a quarter of the file's length, and their index
unfoldable pub channel_index : ℕ → Tree
channel_index q = record { rows = 3 * q; links = 6 * q + (6 * q) / 7; roots = q / 8 + 1 }

-- a row says that the channel is named; its first value is 0, or 1 if a response admitted it, or 2 if a PSM 3 request did
unfoldable pub says_named : Slot → Bool
says_named none = false
says_named (some v z) = true

unfoldable pub says_admitted : Slot → Bool
says_admitted none = false
says_admitted (some v z) = ltb 0 v

-- n rows at word b tell of every channel what the signals say of it
pub record Tells (ss : List Signal) (w : List ℕ) (b n : ℕ) : Type 0 where
  pub names : (link rx cid : ℕ) → rx ≤ 1 → cid < 65536 → says_named (lookup w b n (channel_key link rx cid)) ≡ named ss (triple link rx cid)
  pub admits : (link rx cid : ℕ) → rx ≤ 1 → cid < 65536 → says_admitted (lookup w b n (channel_key link rx cid)) ≡ admitted ss (triple link rx cid)
