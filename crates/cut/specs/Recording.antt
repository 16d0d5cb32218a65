-- A recording: the bytes of a file, and beside them what was sent. Each record is marked with what it carries; import never sees a mark.
use Rattle.std.specs.Prelude.{ℕ, ◌≤◌, List, ◌++◌, map, length, take}
use Rattle.laws.specs.Lists.{flat}
use Rattle.container.specs.Container.{Container}
use Rattle.items.specs.declared.Direction.{Direction}
use Rattle.mdr.specs.Frame.{packed}

-- a frame before it is packed. (That its numbers are bytes is not asked.)
pub record Frame : Type 0 where
  pub type : ℕ
  pub seq : ℕ
  pub payload : List ℕ

-- its wire is its packed bytes
abbrev pub wire : Frame → List ℕ
wire f = packed f.type f.seq f.payload

-- what is sent in frames: what one is, its bytes on the wire, and which may be sent
pub record Framing : Type 1 where
  pub Form : Type 0
  pub on_wire : Form → List ℕ
  pub Allowed : Form → Type 0

-- document 01's: packed frames of at most 65,536 wire bytes
abbrev pub packed_frames : Framing
packed_frames = record { Form = Frame; on_wire = wire; Allowed = λ f. length (wire f) ≤ 65536 }

-- a link: its handle, which is the pair of an adapter's index and a handle as a packet's `link` has it, and for each direction its CID,
-- the frames sent one after another, and the beginning of one more (empty: none)
pub record LinkOf (S : Framing) : Type 0 where
  pub handle : ℕ
  pub cid : Direction → ℕ
  pub frames : Direction → List S.Form
  pub partial : Direction → List ℕ

abbrev pub Link : Type 0
Link = LinkOf packed_frames

pub data Mark : Type 0 where
  -- carries no data PDU
  free : Mark
  -- a fragment of a data PDU, not its last
  part : Mark
  -- the last fragment of a data PDU, and the information of that PDU
  last : List ℕ → Mark

pub record Record : Type 0 where
  pub bytes : List ℕ
  pub mark : Mark

-- in a container
pub record RecordingOf (C : Container) (S : Framing) : Type 0 where
  -- the DLCI that all links are on
  pub d : ℕ
  pub header : List ℕ
  pub records : List Record
  pub links : List (LinkOf S)

abbrev pub Recording : Container → Type 0
Recording C = RecordingOf C packed_frames

abbrev pub rows : List Record → List (List ℕ)
rows rs = map (λ r. r.bytes) rs

unfoldable pub file : {C : Container} {S : Framing} → RecordingOf C S → List ℕ
file R = R.header ++ flat (rows R.records)

-- a cut keeps the first n bytes
unfoldable pub cut : {C : Container} {S : Framing} → RecordingOf C S → ℕ → List ℕ
cut R n = take n (file R)
