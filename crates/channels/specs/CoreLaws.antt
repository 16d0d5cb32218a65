-- Laws of Bluetooth Core's rule: what PDUs in two parts bring, and that a channel holds from success to end.
use Rattle.std.specs.Prelude.{◌≡◌, Bool, true, false, ◌||◌, List, ◌∷◌, ◌++◌}
use Rattle.laws.specs.Keys.{Key, eq_k}
use Rattle.channels.specs.Channels.{any}
use Rattle.channels.specs.Core.{CoreSignal, connects, succeeds, disconnects}

-- ---- from success to end

-- a request that is known by k
unfoldable pub asks_as : Key → CoreSignal → Bool
asks_as k (connects j psm source) = eq_k k j
asks_as k (succeeds j destination) = false
asks_as k (disconnects destination source) = false

-- an end of t
unfoldable pub ends_of : Key → CoreSignal → Bool
ends_of t (connects j psm source) = false
ends_of t (succeeds j destination) = false
ends_of t (disconnects destination source) = eq_k t destination || eq_k t source

-- A request for PSM 3 and a success with its identifier, no other request with it from that side between them, and since then no end of the channel:
-- then the request's source and the response's destination hold.
pub record Between (ss : List CoreSignal) (t : Key) : Type 0 where
  pub request : Key
  pub source : Key
  pub destination : Key
  pub a : List CoreSignal
  pub b : List CoreSignal
  pub c : List CoreSignal
  pub are : ss ≡ a ++ connects request 3 source ∷ (b ++ succeeds request destination ∷ c)
  pub latest : any (asks_as request) b ≡ false
  pub unended : any (ends_of t) c ≡ false
  pub one : eq_k t source || eq_k t destination ≡ true
