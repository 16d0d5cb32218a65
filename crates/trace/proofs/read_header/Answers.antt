use Rattle.std.proofs.lemmas.Result.{err_from_is_err_and}
use Rattle.trace.proofs.Headers.{btsnoop_known, btsnoop_refused, pcap_known, pcap_refused}
use Rattle.trace.proofs.read_header.Goals as goal

pub returns-in_err-read_header-in-Btsnoop : goal.returns-in_err-read_header-in-Btsnoop
returns-in_err-read_header-in-Btsnoop c =
    let p = err_from_is_err_and c.from_residual.result c.from_residual.ensures.1 in
    rw p.1 (btsnoop_refused _ _ c.in-Btsnoop.is _ c.read_header.ensures _ (c.in_err-read_header-in-Btsnoop.was) _ p.2)

pub returns-in_err-read_header-in-Pcap : goal.returns-in_err-read_header-in-Pcap
returns-in_err-read_header-in-Pcap c =
    let p = err_from_is_err_and c.from_residual-in_err-read_header-in-Pcap.result c.from_residual-in_err-read_header-in-Pcap.ensures.1 in
    rw p.1 (pcap_refused _ _ c.in-Pcap.is _ c.read_header-in-Pcap.ensures _ (c.in_err-read_header-in-Pcap.was) _ p.2)

pub returns-in_ok-read_header-in-Btsnoop : goal.returns-in_ok-read_header-in-Btsnoop
returns-in_ok-read_header-in-Btsnoop c = search (btsnoop_known, c.in_ok-read_header-in-Btsnoop.was)

pub returns-in_ok-read_header-in-Pcap : goal.returns-in_ok-read_header-in-Pcap
returns-in_ok-read_header-in-Pcap c = search (pcap_known, c.in_ok-read_header-in-Pcap.was)
