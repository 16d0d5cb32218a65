-- What reading a header answers.
use Rattle.std.specs.Prelude.{Result, Ok, Err}
use Prim.Native.Nat.{ℕ}
use mathlib.Core.Path.{◌≡◌, sym, ◌∙◌}
use mathlib.Core.List.{List}
use Rattle.btsnoop.specs.Headers as btsnoop_headers
use Rattle.btsnoop.proofs.Headers as btsnoop_read
use Rattle.btsnoop.specs.declared.Datalink.{Datalink}
use Rattle.btsnoop.specs.declared.HeaderError as btsnoop_header
use Rattle.btsnoop.specs.declared.HeaderError.TheVariants as btsnoop_says
use Rattle.pcap.specs.Headers as pcap_headers
use Rattle.pcap.proofs.Headers as pcap_read
use Rattle.pcap.specs.declared.Encoding.{Encoding}
use Rattle.pcap.specs.declared.HeaderError as pcap_header
use Rattle.pcap.specs.declared.HeaderError.TheVariants as pcap_says
use Rattle.trace.specs.Headers.{headed, btsnoop_refusal, pcap_refusal, HeaderOf, HeaderIs}
use Rattle.trace.specs.declared.Container.{Container}
use Rattle.trace.specs.declared.Container.TheVariants.{Btsnoop, Pcap}
use Rattle.trace.specs.declared.Format.{Format}
use Rattle.trace.specs.declared.Format.TheVariants.{Btsnoop as ByDatalink, Pcap as ByEncoding}
use Rattle.trace.specs.declared.Refusal.{Refusal}

module _ (b : Container) (f : List ℕ) where
  module _ (q : b ≡ Btsnoop) (h : Result Datalink btsnoop_header.HeaderError) (e : h ≡ btsnoop_headers.header_of f) where
    pub btsnoop_known : (n : Datalink) → h ≡ Ok n → HeaderIs b f (Ok (ByDatalink n))
    btsnoop_known n z = let k = btsnoop_read.known_link f n (sym e ∙ z) in rw q (record { says = (k.0, k.1, rw k.2) })

    pub btsnoop_refused : (y : btsnoop_header.HeaderError) → h ≡ Err y → (x : Refusal) → x ≡ btsnoop_refusal y → HeaderIs b f (Err x)
    unfolding headed
    btsnoop_refused btsnoop_says.NotBtsnoop z x m = rw (q, m) (record { says = λ a. rw (btsnoop_read.no_header f (sym e ∙ z)) })
    btsnoop_refused (btsnoop_says.Datalink n) z x m = let k = btsnoop_read.other_link f n (sym e ∙ z) in rw (q, m) (record { says = λ a. rw (k.0, k.1, k.2) })

  module _ (q : b ≡ Pcap) (h : Result Encoding pcap_header.HeaderError) (e : h ≡ pcap_headers.header_of f) where
    pub pcap_known : (x : Encoding) → h ≡ Ok x → HeaderIs b f (Ok (ByEncoding x))
    pcap_known x z = let k = pcap_read.known_link f x (sym e ∙ z) in rw q (record { says = (k.0, k.1, rw k.2) })

    pub pcap_refused : (y : pcap_header.HeaderError) → h ≡ Err y → (x : Refusal) → x ≡ pcap_refusal y → HeaderIs b f (Err x)
    unfolding headed
    pcap_refused pcap_says.NotPcap z x m = rw (q, m) (record { says = λ a. rw (pcap_read.no_header f (sym e ∙ z)) })
    pcap_refused (pcap_says.LinkType n) z x m = let k = pcap_read.other_link f n (sym e ∙ z) in rw (q, m) (record { says = λ a. rw (k.0, k.1, k.2) })

-- what is refused, and what is read
pub header_as : (b : Container) (f : List ℕ) (r x : Result Format Refusal) → HeaderIs b f r → r ≡ x → HeaderOf b f x
header_as b f r x m e = rw e at m.says
