-- The command names: both tables as the source spells them.
use Rattle.std.specs.Prelude.{Bool, true, false, cond, List, [], ◌∷◌, ℕ, eqb}
use Prim.Native.String.{String}
use Rattle.laws.specs.Keys.{eq_k}
use Rattle.commands.specs.Text.{ascii}

pub record Entry : Type 0 where
  pub code : ℕ
  pub name : List ℕ

abbrev pub entry : ℕ → String → Entry
entry c s = record { code = c; name = ascii s }

-- the ordinary command channel
unfoldable pub t1 : List Entry
t1 =
    entry 0x00 "CONNECT_GET_PROTOCOL_INFO" ∷
    entry 0x01 "CONNECT_RET_PROTOCOL_INFO" ∷
    entry 0x02 "CONNECT_GET_CAPABILITY_INFO" ∷
    entry 0x03 "CONNECT_RET_CAPABILITY_INFO" ∷
    entry 0x04 "CONNECT_GET_DEVICE_INFO" ∷
    entry 0x05 "CONNECT_RET_DEVICE_INFO" ∷
    entry 0x06 "CONNECT_GET_SUPPORT_FUNCTION" ∷
    entry 0x07 "CONNECT_RET_SUPPORT_FUNCTION" ∷
    entry 0x0F "GET_TEST" ∷
    entry 0x10 "COMMON_GET_CAPABILITY" ∷
    entry 0x11 "COMMON_RET_CAPABILITY" ∷
    entry 0x12 "COMMON_GET_STATUS" ∷
    entry 0x13 "COMMON_RET_STATUS" ∷
    entry 0x15 "COMMON_NTFY_STATUS" ∷
    entry 0x18 "COMMON_SET_PARAM" ∷
    entry 0x19 "COMMON_NTFY_PARAM" ∷
    entry 0x20 "POWER_GET_CAPABILITY" ∷
    entry 0x21 "POWER_RET_CAPABILITY" ∷
    entry 0x22 "POWER_GET_STATUS" ∷
    entry 0x23 "POWER_RET_STATUS" ∷
    entry 0x24 "POWER_SET_STATUS" ∷
    entry 0x25 "POWER_NTFY_STATUS" ∷
    entry 0x26 "POWER_GET_PARAM" ∷
    entry 0x27 "POWER_RET_PARAM" ∷
    entry 0x28 "POWER_SET_PARAM" ∷
    entry 0x29 "POWER_NTFY_PARAM" ∷
    entry 0x30 "UPDT_GET_CAPABILITY" ∷
    entry 0x31 "UPDT_RET_CAPABILITY" ∷
    entry 0x32 "UPDT_GET_STATUS" ∷
    entry 0x33 "UPDT_RET_STATUS" ∷
    entry 0x34 "UPDT_SET_STATUS" ∷
    entry 0x35 "UPDT_NTFY_STATUS" ∷
    entry 0x36 "UPDT_GET_PARAM" ∷
    entry 0x37 "UPDT_RET_PARAM" ∷
    entry 0x38 "UPDT_SET_PARAM" ∷
    entry 0x39 "UPDT_NTFY_PARAM" ∷
    entry 0x3E "UPDT_TRANSFER_DATA" ∷
    entry 0x3F "UPDT_NTFY_MESSAGE" ∷
    entry 0x40 "LEA_GET_CAPABILITY" ∷
    entry 0x41 "LEA_RET_CAPABILITY" ∷
    entry 0x42 "LEA_GET_STATUS" ∷
    entry 0x43 "LEA_RET_STATUS" ∷
    entry 0x45 "LEA_NTFY_STATUS" ∷
    entry 0x46 "LEA_GET_PARAM" ∷
    entry 0x47 "LEA_RET_PARAM" ∷
    entry 0x48 "LEA_SET_PARAM" ∷
    entry 0x49 "LEA_NTFY_PARAM" ∷
    entry 0x4A "LEA_GET_EXTENDED_PARAM" ∷
    entry 0x4B "LEA_RET_EXTENDED_PARAM" ∷
    entry 0x4C "LEA_SET_EXTENDED_PARAM" ∷
    entry 0x4D "LEA_NTFY_EXTENDED_PARAM" ∷
    entry 0x50 "EQEBB_GET_CAPABILITY" ∷
    entry 0x51 "EQEBB_RET_CAPABILITY" ∷
    entry 0x52 "EQEBB_GET_STATUS" ∷
    entry 0x53 "EQEBB_RET_STATUS" ∷
    entry 0x55 "EQEBB_NTFY_STATUS" ∷
    entry 0x56 "EQEBB_GET_PARAM" ∷
    entry 0x57 "EQEBB_RET_PARAM" ∷
    entry 0x58 "EQEBB_SET_PARAM" ∷
    entry 0x59 "EQEBB_NTFY_PARAM" ∷
    entry 0x5A "EQEBB_GET_EXTENDED_INFO" ∷
    entry 0x5B "EQEBB_RET_EXTENDED_INFO" ∷
    entry 0x60 "NCASM_GET_CAPABILITY" ∷
    entry 0x61 "NCASM_RET_CAPABILITY" ∷
    entry 0x62 "NCASM_GET_STATUS" ∷
    entry 0x63 "NCASM_RET_STATUS" ∷
    entry 0x64 "NCASM_SET_STATUS" ∷
    entry 0x65 "NCASM_NTFY_STATUS" ∷
    entry 0x66 "NCASM_GET_PARAM" ∷
    entry 0x67 "NCASM_RET_PARAM" ∷
    entry 0x68 "NCASM_SET_PARAM" ∷
    entry 0x69 "NCASM_NTFY_PARAM" ∷
    entry 0x70 "SENSE_GET_CAPABILITY" ∷
    entry 0x71 "SENSE_RET_CAPABILITY" ∷
    entry 0x74 "SENSE_SET_STATUS" ∷
    entry 0x75 "SENSE_NTFY_STATUS" ∷
    entry 0x78 "SENSE_SET_PARAM" ∷
    entry 0x79 "SENSE_NTFY_PARAM" ∷
    entry 0x7A "SENSE_GET_EXT_INFO" ∷
    entry 0x7B "SENSE_RET_EXT_INFO" ∷
    entry 0x80 "OPT_GET_CAPABILITY" ∷
    entry 0x81 "OPT_RET_CAPABILITY" ∷
    entry 0x82 "OPT_GET_STATUS" ∷
    entry 0x83 "OPT_RET_STATUS" ∷
    entry 0x84 "OPT_SET_STATUS" ∷
    entry 0x85 "OPT_NTFY_STATUS" ∷
    entry 0x86 "OPT_GET_PARAM" ∷
    entry 0x87 "OPT_RET_PARAM" ∷
    entry 0x88 "OPT_SET_PARAM" ∷
    entry 0x89 "OPT_NTFY_PARAM" ∷
    entry 0x90 "ALERT_GET_CAPABILITY" ∷
    entry 0x91 "ALERT_RET_CAPABILITY" ∷
    entry 0x92 "ALERT_GET_STATUS" ∷
    entry 0x93 "ALERT_RET_STATUS" ∷
    entry 0x94 "ALERT_SET_STATUS" ∷
    entry 0x95 "ALERT_NTFY_STATUS" ∷
    entry 0x98 "ALERT_SET_PARAM" ∷
    entry 0x99 "ALERT_NTFY_PARAM" ∷
    entry 0xA0 "PLAY_GET_CAPABILITY" ∷
    entry 0xA1 "PLAY_RET_CAPABILITY" ∷
    entry 0xA2 "PLAY_GET_STATUS" ∷
    entry 0xA3 "PLAY_RET_STATUS" ∷
    entry 0xA4 "PLAY_SET_STATUS" ∷
    entry 0xA5 "PLAY_NTFY_STATUS" ∷
    entry 0xA6 "PLAY_GET_PARAM" ∷
    entry 0xA7 "PLAY_RET_PARAM" ∷
    entry 0xA8 "PLAY_SET_PARAM" ∷
    entry 0xA9 "PLAY_NTFY_PARAM" ∷
    entry 0xB0 "SAR_AUTO_PLAY_GET_CAPABILITY" ∷
    entry 0xB1 "SAR_AUTO_PLAY_RET_CAPABILITY" ∷
    entry 0xB2 "SAR_AUTO_PLAY_GET_STATUS" ∷
    entry 0xB3 "SAR_AUTO_PLAY_RET_STATUS" ∷
    entry 0xB5 "SAR_AUTO_PLAY_NTFY_STATUS" ∷
    entry 0xB6 "SAR_AUTO_PLAY_GET_PARAM" ∷
    entry 0xB7 "SAR_AUTO_PLAY_RET_PARAM" ∷
    entry 0xB8 "SAR_AUTO_PLAY_SET_PARAM" ∷
    entry 0xB9 "SAR_AUTO_PLAY_NTFY_PARAM" ∷
    entry 0xC4 "LOG_SET_STATUS" ∷
    entry 0xC9 "LOG_NTFY_PARAM" ∷
    entry 0xD0 "GENERAL_SETTING_GET_CAPABILITY" ∷
    entry 0xD1 "GENERAL_SETTING_RET_CAPABILITY" ∷
    entry 0xD2 "GENERAL_SETTING_GET_STATUS" ∷
    entry 0xD3 "GENERAL_SETTING_RET_STATUS" ∷
    entry 0xD5 "GENERAL_SETTING_NTFY_STATUS" ∷
    entry 0xD6 "GENERAL_SETTING_GET_PARAM" ∷
    entry 0xD7 "GENERAL_SETTING_RET_PARAM" ∷
    entry 0xD8 "GENERAL_SETTING_SET_PARAM" ∷
    entry 0xD9 "GENERAL_SETTING_NTNY_PARAM" ∷
    entry 0xE0 "AUDIO_GET_CAPABILITY" ∷
    entry 0xE1 "AUDIO_RET_CAPABILITY" ∷
    entry 0xE2 "AUDIO_GET_STATUS" ∷
    entry 0xE3 "AUDIO_RET_STATUS" ∷
    entry 0xE5 "AUDIO_NTFY_STATUS" ∷
    entry 0xE6 "AUDIO_GET_PARAM" ∷
    entry 0xE7 "AUDIO_RET_PARAM" ∷
    entry 0xE8 "AUDIO_SET_PARAM" ∷
    entry 0xE9 "AUDIO_NTFY_PARAM" ∷
    entry 0xF0 "SYSTEM_GET_CAPABILITY" ∷
    entry 0xF1 "SYSTEM_RET_CAPABILITY" ∷
    entry 0xF2 "SYSTEM_GET_STATUS" ∷
    entry 0xF3 "SYSTEM_RET_STATUS" ∷
    entry 0xF4 "SYSTEM_SET_STATUS" ∷
    entry 0xF5 "SYSTEM_NTFY_STATUS" ∷
    entry 0xF6 "SYSTEM_GET_PARAM" ∷
    entry 0xF7 "SYSTEM_RET_PARAM" ∷
    entry 0xF8 "SYSTEM_SET_PARAM" ∷
    entry 0xF9 "SYSTEM_NTFY_PARAM" ∷
    entry 0xFA "SYSTEM_GET_EXT_PARAM" ∷
    entry 0xFB "SYSTEM_RET_EXT_PARAM" ∷
    entry 0xFC "SYSTEM_SET_EXT_PARAM" ∷
    entry 0xFD "SYSTEM_NTFY_EXT_PARAM" ∷
    entry 0xFF "UNKNOWN" ∷
    []

-- the second command channel
unfoldable pub t2 : List Entry
t2 =
    entry 0x06 "CONNECT_GET_SUPPORT_FUNCTION" ∷
    entry 0x07 "CONNECT_RET_SUPPORT_FUNCTION" ∷
    entry 0x20 "POWER_GET_CAPABILITY" ∷
    entry 0x21 "POWER_RET_CAPABILITY" ∷
    entry 0x22 "POWER_GET_STATUS" ∷
    entry 0x23 "POWER_RET_STATUS" ∷
    entry 0x24 "POWER_SET_STATUS" ∷
    entry 0x25 "POWER_NTFY_STATUS" ∷
    entry 0x26 "POWER_GET_PARAM" ∷
    entry 0x27 "POWER_RET_PARAM" ∷
    entry 0x28 "POWER_SET_PARAM" ∷
    entry 0x29 "POWER_NTFY_PARAM" ∷
    entry 0x30 "PERI_GET_CAPABILITY" ∷
    entry 0x31 "PERI_RET_CAPABILITY" ∷
    entry 0x32 "PERI_GET_STATUS" ∷
    entry 0x33 "PERI_RET_STATUS" ∷
    entry 0x34 "PERI_SET_STATUS" ∷
    entry 0x35 "PERI_NTFY_STATUS" ∷
    entry 0x36 "PERI_GET_PARAM" ∷
    entry 0x37 "PERI_RET_PARAM" ∷
    entry 0x38 "PERI_SET_PARAM" ∷
    entry 0x39 "PERI_NTFY_PARAM" ∷
    entry 0x3C "PERI_SET_EXTENDED_PARAM" ∷
    entry 0x3D "PERI_NTFY_EXTENDED_PARAM" ∷
    entry 0x40 "VOICE_GUIDANCE_GET_CAPABILITY" ∷
    entry 0x41 "VOICE_GUIDANCE_RET_CAPABILITY" ∷
    entry 0x42 "VOICE_GUIDANCE_GET_STATUS" ∷
    entry 0x43 "VOICE_GUIDANCE_RET_STATUS" ∷
    entry 0x44 "VOICE_GUIDANCE_SET_STATUS" ∷
    entry 0x45 "VOICE_GUIDANCE_NTFY_STATUS" ∷
    entry 0x46 "VOICE_GUIDANCE_GET_PARAM" ∷
    entry 0x47 "VOICE_GUIDANCE_RET_PARAM" ∷
    entry 0x48 "VOICE_GUIDANCE_SET_PARAM" ∷
    entry 0x53 "SAFE_LISTENING_RET_STATUS" ∷
    entry 0x54 "SAFE_LISTENING_SET_STATUS" ∷
    entry 0x55 "SAFE_LISTENING_NTFY_STATUS" ∷
    entry 0x56 "SAFE_LISTENING_GET_PARAM" ∷
    entry 0x57 "SAFE_LISTENING_RET_PARAM" ∷
    entry 0x58 "SAFE_LISTENING_SET_PARAM" ∷
    entry 0x59 "SAFE_LISTENING_NTFY_PARAM" ∷
    entry 0x5A "SAFE_LISTENING_GET_EXTENDED_PARAM" ∷
    entry 0x5B "SAFE_LISTENING_RET_EXTENDED_PARAM" ∷
    entry 0x60 "LEA_GET_CAPABILITY" ∷
    entry 0x61 "LEA_RET_CAPABILITY" ∷
    entry 0x62 "LEA_GET_STATUS" ∷
    entry 0x63 "LEA_RET_STATUS" ∷
    entry 0x65 "LEA_NTFY_STATUS" ∷
    entry 0x66 "LEA_GET_PARAM" ∷
    entry 0x67 "LEA_RET_PARAM" ∷
    entry 0x68 "LEA_SET_PARAM" ∷
    entry 0x69 "LEA_NTFY_PARAM" ∷
    entry 0x70 "PARTY_GET_CAPABILITY" ∷
    entry 0x71 "PARTY_RET_CAPABILITY" ∷
    entry 0x72 "PARTY_GET_STATUS" ∷
    entry 0x73 "PARTY_RET_STATUS" ∷
    entry 0x74 "PARTY_SET_STATUS" ∷
    entry 0x75 "PARTY_NTFY_STATUS" ∷
    entry 0x76 "PARTY_GET_PARAM" ∷
    entry 0x77 "PARTY_RET_PARAM" ∷
    entry 0x78 "PARTY_SET_PARAM" ∷
    entry 0x79 "PARTY_NTFY_PARAM" ∷
    entry 0x7C "PARTY_SET_EXTENDED_PARAM" ∷
    entry 0xF0 "SYSTEM_GET_CAPABILITY" ∷
    entry 0xF1 "SYSTEM_RET_CAPABILITY" ∷
    entry 0xF2 "SYSTEM_GET_STATUS" ∷
    entry 0xF3 "SYSTEM_RET_STATUS" ∷
    entry 0xF4 "SYSTEM_SET_STATUS" ∷
    entry 0xF5 "SYSTEM_NTFY_STATUS" ∷
    entry 0xF6 "SYSTEM_GET_PARAM" ∷
    entry 0xF7 "SYSTEM_RET_PARAM" ∷
    entry 0xF8 "SYSTEM_SET_PARAM" ∷
    entry 0xF9 "SYSTEM_NTFY_PARAM" ∷
    entry 0xFA "SYSTEM_GET_EXTENDED_PARAM" ∷
    entry 0xFB "SYSTEM_RET_EXTENDED_PARAM" ∷
    entry 0xFC "SYSTEM_SET_EXTENDED_PARAM" ∷
    entry 0xFD "SYSTEM_NTFY_EXTENDED_PARAM" ∷
    entry 0xFF "UNKNOWN" ∷
    []

-- the name that a table gives a byte
unfoldable pub name_in : List Entry → ℕ → List ℕ
name_in [] b = ascii "UNKNOWN"
name_in (e ∷ es) b = cond (eqb e.code b) e.name (name_in es b)

-- whether a table has a name
unfoldable pub has_name : List Entry → List ℕ → Bool
has_name [] n = false
has_name (e ∷ es) n = cond (eq_k e.name n) true (has_name es n)

-- whether either has
unfoldable pub is_command_name : List ℕ → Bool
is_command_name n = cond (has_name t1 n) true (has_name t2 n)
