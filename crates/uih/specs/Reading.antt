-- Reading one RFCOMM frame.
use Rattle.std.specs.Prelude.{ℕ, ◌+◌, ◌<◌, ◌≤◌, ◌≡◌, Bool, true, false, cond, List, length, get_or, take, drop}
use Rattle.uih.specs.Frames.{Uih as UihFrame, Frame as FrameRead, sabm, uih, wrong_fcs, other, control, is_sabm, is_uih, short_length, info_length, credit_of, frame_of}
use Rattle.uih.specs.declared.Length.{Length}
use Rattle.uih.specs.declared.Uih.{Uih}
use Rattle.uih.specs.declared.Frame.{Frame}
use Rattle.uih.specs.declared.Frame.TheVariants.{Sabm, Uih as Found, WrongFcs, Other}

-- the UIH frame that the places stand for
unfoldable pub uih_at : List ℕ → Uih → UihFrame
uih_at b u = record { dlci = u.dlci; control = control b; credit = credit_of b; information = take u.len (drop u.start b); fcs = get_or b (u.start + u.len) 0 }

unfoldable pub frame_shown : List ℕ → Frame → FrameRead
frame_shown b (Sabm d) = sabm d
frame_shown b (Found u) = uih (uih_at b u)
frame_shown b (WrongFcs u) = wrong_fcs (uih_at b u)
frame_shown b Other = other

-- places inside the payload
pub record UihLies (b : List ℕ) (u : Uih) : Type 0 where
  pub dlci : u.dlci < 64
  pub first : 3 ≤ u.start
  pub start : u.start ≤ 5
  pub inside : u.start + u.len < length b
  pub few : u.len < 32768

abbrev pub Lies : List ℕ → Frame → Type 0
Lies b (Sabm d) = d < 64
Lies b (Found u) = UihLies b u
Lies b (WrongFcs u) = UihLies b u
Lies b Other = Unit {0}

-- unchecked, a wrong FCS is not told
unfoldable pub seen : Bool → FrameRead → FrameRead
seen fcs (sabm d) = sabm d
seen fcs (uih u) = uih u
seen fcs (wrong_fcs u) = cond fcs (wrong_fcs u) (uih u)
seen fcs other = other

pub record FrameIs (fcs : Bool) (b : List ℕ) (r : Frame) : Type 0 where
  pub shows : seen fcs (frame_of b) ≡ frame_shown b r
  pub lies : Lies b r

pub record LengthIs (b : List ℕ) (r : Length) : Type 0 where
  pub value : r.value ≡ info_length b
  pub start : 2 + r.width ≡ cond (short_length b) 3 4
  pub few : r.value < 32768
  pub wide : r.width ≤ 2

pub record UihPre (b : List ℕ) : Type 0 where
  pub some : 2 ≤ length b
  pub not : is_sabm (get_or b 1 0) ≡ false
  pub is : is_uih (get_or b 1 0) ≡ true
