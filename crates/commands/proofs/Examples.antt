-- Names that either table has, or neither.
use mathlib.Core.Path.{◌≡◌, refl}
use mathlib.Core.Bool.{true, false}
use Rattle.laws.specs.Keys.{eq_k}
use Rattle.commands.specs.Text.{ascii}
use Rattle.commands.specs.Commands.{t1, t2, has_name, is_command_name}

examples :
    (is_command_name (ascii "GET_TEST") ≡ true)
    × (is_command_name (ascii "PERI_GET_STATUS") ≡ true)
    × (is_command_name (ascii "UNKNOWN") ≡ true)
    × (is_command_name (ascii "NO_COMMAND") ≡ false)
    × (is_command_name (ascii "GENERAL_SETTING_NTFY_PARAM") ≡ false)
    × (is_command_name (ascii "LOG_GET_PARAM") ≡ false)
    × (is_command_name (ascii "DATA_MDR") ≡ false)
unfolding is_command_name has_name t1 t2 eq_k
examples = (refl, refl, refl, refl, refl, refl, refl)
