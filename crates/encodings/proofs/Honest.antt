-- The recording with everything, as a pcap file in the other two encodings: big-endian in microseconds, little-endian in nanoseconds. It is honest in these too.
use mathlib.Core.Path.{◌≡◌, refl}
use Rattle.laws.specs.Chop.{chop, chop_from}
use Rattle.laws.specs.Keys.{eq_k}
use Rattle.laws.specs.Keyed.{of, run, after}
use Rattle.laws.specs.Numbers.{le16, le32, be32, be64}
use Rattle.items.specs.Items.{rx_of}
use Rattle.mdr.specs.Frame.{head_of, summed_of, body_of, packed}
use Rattle.mdr.specs.Escape.{within}
use Rattle.mdr.specs.Sum.{checksum_of}
use Rattle.container.specs.Packets.{fragment, h4_packet, packets}
use Rattle.container.specs.Container.{packets_in}
use Rattle.pcap.specs.Header.{is_big, is_little, is_nano, is_pcap, number, link_of, is_link}
use Rattle.pcap.specs.Records.{record_size}
use Rattle.pcap.specs.Packets.{milliseconds, directed_packet, packet_of}
use Rattle.l2cap.specs.Pdus.{joined, is_complete, still_open, pdu_of, completed, pdus}
use Rattle.channels.specs.Signals.{command_size, is_command, commands, body, signal_of, signals_in, pdu_signals, signals}
use Rattle.channels.specs.Channels.{any, names, named, asks_for, admits, admitted_after, admitted, is_tried, asks_rfcomm, asks_session}
use Rattle.channels.specs.Tried.{source, tried_by}
use Rattle.uih.specs.Fcs.{shift_one, shifted, register, fcs_of}
use Rattle.uih.specs.Frames.{is_sabm, is_uih, short_length, info_length, info_start, credit_of, frame_of, is_right}
use Rattle.rfcomm.specs.Pieces.{unchecked, uih_kind, frame_kind, kind_by, judged_from, judged_by}
use Rattle.btsnoop.specs.Packets.{milliseconds as time_of}
use Rattle.pcap.proofs.Laws.{lawful}
use Rattle.cut.specs.Recording.{file}
use Rattle.cut.specs.Left.{left_from, records_left, sent, data_of, data_left}
use Rattle.cut.specs.Honest.{pdus_in, marked_pdus, with_marks, judged_in, is_data_of, to_data, after_data, adds, carries_on, Honest}
use Rattle.cut.proofs.Tests.{packed_checked, every, once, ends, header_test, whole_test, small_test, dlci_test, dynamic_test, channel_test, channels_test, checks_test, information_test, sizes_test, beginnings_test, settled_in, settled_test, alone_in, alone_test, handles_test, data_test, mark_test, fragments_test, rules, passed_all, honest}
use Rattle.cut.proofs.Recordings.{unended}
use Rattle.cut.proofs.Computed.{tested_by}
use Rattle.recordings.proofs.Recorded.{big, little_nanos}

big_tested : tested_by (unchecked source) big ≡ passed_all
unfolding rules every once ends header_test whole_test small_test dlci_test dynamic_test channel_test channels_test checks_test information_test sizes_test beginnings_test settled_in settled_test alone_in alone_test handles_test data_test mark_test fragments_test left_from records_left sent data_of data_left pdus_in marked_pdus with_marks judged_in is_data_of to_data after_data adds carries_on file is_pcap is_big is_little is_nano number link_of is_link eq_k record_size be32 be64 le16 le32 packets_in packets packet_of directed_packet milliseconds time_of fragment h4_packet pdus run after of joined is_complete still_open pdu_of completed command_size is_command commands chop chop_from body signal_of signals_in pdu_signals signals any names named asks_for admits admitted_after admitted is_tried asks_rfcomm asks_session is_sabm is_uih short_length info_length info_start credit_of is_right fcs_of register shifted shift_one frame_of uih_kind frame_kind kind_by tried_by judged_from judged_by rx_of packed body_of summed_of head_of checksum_of within
big_tested = refl

little_nanos_tested : tested_by (unchecked source) little_nanos ≡ passed_all
unfolding rules every once ends header_test whole_test small_test dlci_test dynamic_test channel_test channels_test checks_test information_test sizes_test beginnings_test settled_in settled_test alone_in alone_test handles_test data_test mark_test fragments_test left_from records_left sent data_of data_left pdus_in marked_pdus with_marks judged_in is_data_of to_data after_data adds carries_on file is_pcap is_big is_little is_nano number link_of is_link eq_k record_size be32 be64 le16 le32 packets_in packets packet_of directed_packet milliseconds time_of fragment h4_packet pdus run after of joined is_complete still_open pdu_of completed command_size is_command commands chop chop_from body signal_of signals_in pdu_signals signals any names named asks_for admits admitted_after admitted is_tried asks_rfcomm asks_session is_sabm is_uih short_length info_length info_start credit_of is_right fcs_of register shifted shift_one frame_of uih_kind frame_kind kind_by tried_by judged_from judged_by rx_of packed body_of summed_of head_of checksum_of within
little_nanos_tested = refl

pub big_honest : Honest (unchecked source) big
big_honest = honest lawful (unchecked source) packed_checked (λ l t. unended) big big_tested

pub little_nanos_honest : Honest (unchecked source) little_nanos
little_nanos_honest = honest lawful (unchecked source) packed_checked (λ l t. unended) little_nanos little_nanos_tested
