-- How the code reads signalling: the first command, and what a signal of the code's enum says.
use Rattle.std.specs.Prelude.{ℕ, Option, Some, None, List, [], ◌∷◌, take}
use Rattle.laws.specs.Keys.{Key}
use Rattle.items.specs.Items.{rx_of}
use Rattle.channels.specs.Signals.{command_size, commands, triple, opposite, Signal, request, response}
use Rattle.channels.specs.declared.Commands.{Commands}
use Rattle.channels.specs.declared.Triple.{Triple}
use Rattle.channels.specs.declared.Signal.{Signal as Said}
use Rattle.channels.specs.declared.Signal.TheVariants.{Request, Response}

-- the first command, or all that is left if it passes the end
unfoldable pub command_bytes : List ℕ → List ℕ
command_bytes b = take (command_size b) b

-- the commands of what is left
abbrev pub commands_left : Commands → List (List ℕ)
commands_left q = commands q.rest.now

unfoldable pub triple_of : Triple → Key
triple_of t = triple t.link (rx_of t.direction) t.cid

-- what a command says; a response answers a request that named its source in the response's own direction
unfoldable pub told : Option Said → List Signal
told (Some (Request t psm)) = request (triple_of t) psm ∷ []
told (Some (Response t source ok)) = response (triple_of t) (triple t.link (opposite (rx_of t.direction)) source) ok ∷ []
told None = []
