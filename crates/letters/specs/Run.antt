-- A name is a stem and an ending. Stems and endings lie in one run of letters, none of them twice.
use Rattle.std.specs.Prelude.{◌≡◌, Bool, true, false, cond, List, [], ◌∷◌, ◌++◌, map, ℕ, suc, ◌+◌, ◌*◌, ◌/◌, ◌%◌, ◌<◌, eqb, length, get_or, drop}
use Rattle.laws.specs.Keys.{eq_k}
use Rattle.commands.specs.Text.{ascii}
use Rattle.commands.specs.Numbers.{all_names, name_at}
use Rattle.letters.specs.declared.Halves.{Halves}

unfoldable pub endings : List (List ℕ)
endings =
    map ascii
    ("PROTOCOL_INFO" ∷ "CAPABILITY_INFO" ∷ "DEVICE_INFO" ∷ "SUPPORT_FUNCTION" ∷ "" ∷ "GET_CAPABILITY" ∷
    "RET_CAPABILITY" ∷ "GET_STATUS" ∷ "RET_STATUS" ∷ "SET_STATUS" ∷ "NTFY_STATUS" ∷ "GET_PARAM" ∷ "RET_PARAM" ∷
    "SET_PARAM" ∷ "NTFY_PARAM" ∷ "NTNY_PARAM" ∷ "GET_EXT_PARAM" ∷ "RET_EXT_PARAM" ∷ "SET_EXT_PARAM" ∷
    "NTFY_EXT_PARAM" ∷ "GET_EXTENDED_PARAM" ∷ "RET_EXTENDED_PARAM" ∷ "SET_EXTENDED_PARAM" ∷ "NTFY_EXTENDED_PARAM" ∷
    "GET_EXT_INFO" ∷ "RET_EXT_INFO" ∷ "GET_EXTENDED_INFO" ∷ "RET_EXTENDED_INFO" ∷ "TRANSFER_DATA" ∷ "NTFY_MESSAGE" ∷
    "_MC_NO1" ∷ "_ICD" ∷ "_EV" ∷ "_COMMON" ∷ "_MDR_NO2" ∷ "_MDR" ∷
    [])

-- those of the commands, then those that only types and NO_COMMAND have
unfoldable pub stems : List (List ℕ)
stems =
    map ascii
    ("CONNECT_GET_" ∷ "CONNECT_RET_" ∷ "GET_TEST" ∷ "COMMON_" ∷ "POWER_" ∷ "UPDT_" ∷ "LEA_" ∷ "EQEBB_" ∷ "NCASM_" ∷
    "SENSE_" ∷ "OPT_" ∷ "ALERT_" ∷ "PLAY_" ∷ "SAR_AUTO_PLAY_" ∷ "LOG_" ∷ "GENERAL_SETTING_" ∷ "AUDIO_" ∷ "SYSTEM_" ∷
    "UNKNOWN" ∷ "PERI_" ∷ "VOICE_GUIDANCE_" ∷ "SAFE_LISTENING_" ∷ "PARTY_" ∷ "DATA" ∷ "ACK" ∷ "SHOT" ∷ "NO_COMMAND" ∷
    [])

-- a part is an ending or a stem
unfoldable pub parts : List (List ℕ)
parts = endings ++ stems

-- the part with a number
unfoldable pub part_at : ℕ → List ℕ
part_at p = get_or parts p []

-- ---- the run of letters

-- the parts without letters of their own: theirs stand in those of others
unfoldable pub inner : List (List ℕ)
inner = map ascii ("" ∷ "_MDR" ∷ "COMMON_" ∷ "PLAY_" ∷ "DATA" ∷ [])

abbrev pub is_among : List ℕ → List (List ℕ) → Bool
is_among n [] = false
is_among n (l ∷ ls) = cond (eq_k l n) true (is_among n ls)

-- all others, one after another
abbrev pub run_of : List (List ℕ) → List ℕ
run_of [] = []
run_of (p ∷ ps) = cond (is_among p inner) (run_of ps) (p ++ run_of ps)

unfoldable pub all_letters : List ℕ
all_letters = run_of parts

-- whether a list begins with these letters
unfoldable pub begins : List ℕ → List ℕ → Bool
begins [] l = true
begins (x ∷ p) [] = false
begins (x ∷ p) (y ∷ l) = cond (eqb x y) (begins p l) false

-- the first place at which they stand in a list, or its length
abbrev pub place_in : List ℕ → List ℕ → ℕ
place_in p [] = 0
place_in p (x ∷ l) = cond (begins p (x ∷ l)) 0 (suc (place_in p l))

-- where each part starts
abbrev pub starts_of : ℕ → List (List ℕ) → List ℕ
starts_of at [] = []
starts_of at (p ∷ ps) =
    cond (is_among p inner) (place_in p all_letters) at ∷ starts_of (cond (is_among p inner) at (at + length p)) ps

unfoldable pub all_starts : List ℕ
all_starts = starts_of 0 parts

unfoldable pub all_lens : List ℕ
all_lens = map length parts

-- ---- the two parts of each name

-- the first of some lists that passes a test, or their number
abbrev pub first_of : (List ℕ → Bool) → List (List ℕ) → ℕ
first_of test [] = 0
first_of test (l ∷ ls) = cond (test l) 0 (suc (first_of test ls))

-- the number of a name's stem
abbrev pub stem_of : List ℕ → ℕ
stem_of n = length endings + first_of (λ (s : List ℕ). begins s n) stems

-- the number of the ending that some letters are, or 36
unfoldable pub ending_in : List ℕ → ℕ
ending_in l = first_of (λ (e : List ℕ). eq_k e l) endings

-- the number of a name's ending
abbrev pub ending_of : List ℕ → ℕ
ending_of n = ending_in (drop (length (part_at (stem_of n))) n)

-- both in one number, a byte for each
abbrev pub pair_of : List ℕ → ℕ
pair_of n = 256 * stem_of n + ending_of n

unfoldable pub all_pairs : List ℕ
all_pairs = map pair_of all_names

-- the name that such a number means
abbrev pub joined : ℕ → List ℕ
joined w = part_at (w / 256) ++ part_at (w % 256)

-- ---- what the code has of them

-- how long a name is, with a bound that spares callers a sum that wraps
pub record NameLong (i r : ℕ) : Type 0 where
  pub is : r ≡ length (name_at i)
  pub small : r < 511

-- these letters are the part with a number
pub record PartIs (p : ℕ) (l : List ℕ) : Type 0 where
  pub is : l ≡ part_at p
  pub small : length l < 256

-- the two parts of the name with a number
pub record HalvesAre (i : ℕ) (r : Halves) : Type 0 where
  pub stem : r.stem < 63
  pub ending : r.ending < 63
  pub joins : part_at r.stem ++ part_at r.ending ≡ name_at i
