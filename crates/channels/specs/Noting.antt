-- The table of channels while signals are read: what a signal does to a row, and what the rows tell with some signals still to come.
use Rattle.std.specs.Prelude.{ℕ, zero, suc, ◌+◌, ◌*◌, ◌<◌, ◌≤◌, max, ◌≡◌, Bool, cond, ◌&&◌, ◌||◌, List, ◌++◌, length, ltb, eqb, Option, Some, None}
use Rattle.words.specs.Front.{Front}
use Rattle.table.specs.Table.{Slot, none, some, lookup}
use Rattle.tree.specs.Tree.{Indexed}
use Rattle.tree.specs.declared.Table.{Table}
use Rattle.channels.specs.Signals.{Signal, triple}
use Rattle.channels.specs.Channels.{any, named, asks_for, admitted, admitted_after}
use Rattle.channels.specs.ChannelTable.{channel_key, says_named, says_admitted}
use Rattle.channels.specs.Reading.{told}
use Rattle.channels.specs.declared.Signal.{Signal as Said}
use Rattle.channels.specs.declared.Grade.{Grade}
use Rattle.channels.specs.declared.Grade.TheVariants.{Named, Answered, Asked}

-- 2 if a PSM 3 request admitted the channel, 1 if a response did, else 0
unfoldable pub grade_of : Slot → ℕ
grade_of none = 0
grade_of (some v z) = v

-- the grade that a word says, and the word of a grade
unfoldable pub graded : ℕ → Grade
graded zero = Named
graded (suc zero) = Answered
graded (suc (suc n)) = Asked

unfoldable pub word_of : Grade → ℕ
word_of Named = 0
word_of Answered = 1
word_of Asked = 2

-- what the code reads of a row
unfoldable pub standing_of : Slot → Option Grade
standing_of none = None
standing_of (some v z) = Some (graded v)

unfoldable pub request_grade : ℕ → ℕ
request_grade psm = cond (eqb psm 3) 2 0

-- by what the table says of the channel that the answered request named
unfoldable pub response_grade : Bool → Slot → ℕ
response_grade ok asked = cond (ok && ltb 1 (grade_of asked)) 1 0

-- the channel of the key k is named, with a grade v; a grade never falls
pub record Raised (w : List ℕ) (b n k v : ℕ) (u : List ℕ) (r : ℕ) : Type 0 where
  pub named : (j : ℕ) → says_named (lookup u b r j) ≡ (says_named (lookup w b n j) || eqb k j)
  pub grade : (j : ℕ) → grade_of (lookup u b r j) ≡ cond (eqb k j) (max (grade_of (lookup w b n j)) v) (grade_of (lookup w b n j))
  pub most : r ≤ n + 1
  pub front : Front (4 * b) u w
  pub size : length u ≡ length w

-- and the index knows of it
pub record RaisedIn (w : List ℕ) (t : Table) (k v : ℕ) (u : List ℕ) (r : ℕ) : Type 0 where
  pub raised : Raised w t.at.rows t.count k v u r
  pub indexed : Indexed u t.at r

-- what is said of every channel, with the signals still to come, is what all signals say of it
pub record Telling (ss : List Signal) (says : ℕ → Slot) (rest : List Signal) : Type 0 where
  -- the signals read so far, the last first
  pub earlier : List Signal
  pub names : (link rx cid : ℕ) → rx ≤ 1 → cid < 65536 → (says_named (says (channel_key link rx cid)) || named rest (triple link rx cid)) ≡ named ss (triple link rx cid)
  pub admits : (link rx cid : ℕ) → rx ≤ 1 → cid < 65536 → (says_admitted (says (channel_key link rx cid)) || admitted_after earlier rest (triple link rx cid)) ≡ admitted ss (triple link rx cid)
  pub asks : (link rx cid : ℕ) → rx ≤ 1 → cid < 65536 → ltb 1 (grade_of (says (channel_key link rx cid))) ≡ any (asks_for (triple link rx cid)) earlier

-- what a command says is noted
pub record Noted (w : List ℕ) (b n : ℕ) (said : Option Said) (u : List ℕ) (r : ℕ) : Type 0 where
  pub tells : (ss rest : List Signal) → Telling ss (lookup w b n) (told said ++ rest) → Telling ss (lookup u b r) rest
  pub most : r ≤ n + length (told said)
  pub front : Front (4 * b) u w
  pub size : length u ≡ length w

pub record NotedIn (w : List ℕ) (t : Table) (said : Option Said) (u : List ℕ) (r : ℕ) : Type 0 where
  pub noted : Noted w t.at.rows t.count said u r
  pub indexed : Indexed u t.at r
