-- RFCOMM frames: address, control, length, for 0xFF a credit byte, information, FCS.
use Rattle.std.specs.Prelude.{ℕ, ◌+◌, ◌*◌, ◌/◌, ◌%◌, Bool, cond, ◌||◌, List, [], ◌∷◌, length, get_or, take, drop, ltb, eqb}
use Rattle.uih.specs.Fcs.{fcs_of}

pub record Uih : Type 0 where
  pub dlci : ℕ
  pub control : ℕ
  -- 0 where there is no credit byte
  pub credit : ℕ
  pub information : List ℕ
  pub fcs : ℕ

-- Reading a UIH frame tells three things apart: good, wrong FCS, not UIH (SABM, or other).
pub data Frame : Type 0 where
  -- the DLCI
  sabm : ℕ → Frame
  uih : Uih → Frame
  wrong_fcs : Uih → Frame
  other : Frame

abbrev pub address : List ℕ → ℕ
address b = get_or b 0 0

abbrev pub control : List ℕ → ℕ
control b = get_or b 1 0

-- 0x2F, or 0x3F with the P/F bit
unfoldable pub is_sabm : ℕ → Bool
is_sabm c = eqb c 0x2F || eqb c 0x3F

-- 0xEF, or 0xFF with the P/F bit
unfoldable pub is_uih : ℕ → Bool
is_uih c = eqb c 0xEF || eqb c 0xFF

-- the length's low bit set means one byte, clear two (7 bits, then 8 above)
unfoldable pub short_length : List ℕ → Bool
short_length b = eqb (get_or b 2 0 % 2) 1

unfoldable pub info_length : List ℕ → ℕ
info_length b = cond (short_length b) (get_or b 2 0 / 2) (get_or b 2 0 / 2 + 128 * get_or b 3 0)

-- where the information starts: after the length, and the credit byte that 0xFF has
unfoldable pub info_start : List ℕ → ℕ
info_start b = cond (short_length b) 3 4 + cond (eqb (control b) 0xFF) 1 0

unfoldable pub credit_of : List ℕ → ℕ
credit_of b = cond (eqb (control b) 0xFF) (get_or b (cond (short_length b) 3 4) 0) 0

-- the fields of a UIH frame; its FCS is the byte after the information, and what follows that is ignored
abbrev pub uih_in : List ℕ → Uih
uih_in b = record {
  dlci = address b / 4;
  control = control b;
  credit = credit_of b;
  information = take (info_length b) (drop (info_start b) b);
  fcs = get_or b (info_start b + info_length b) 0;
}

-- its FCS is the check over address and control, as they stand
unfoldable pub is_right : List ℕ → Bool
is_right b = eqb (uih_in b).fcs (fcs_of (address b ∷ control b ∷ []))

-- Two bytes are enough for SABM, whose FCS is not looked at. A UIH's information and one FCS byte must be there.
unfoldable pub frame_of : List ℕ → Frame
frame_of b =
    cond (ltb 1 (length b))
    (cond (is_sabm (control b)) (sabm (address b / 4))
    (cond (is_uih (control b))
    (cond (ltb (info_start b + info_length b) (length b))
    (cond (is_right b) (uih (uih_in b)) (wrong_fcs (uih_in b)))
    other)
    other))
    other
