-- The splitting of a stream of which nothing has come.
use Rattle.std.proofs.Common.{◌≡◌, [], None}
use Rattle.usb_base.specs.declared.reason.Reason.{Reason}
use Rattle.packet_stream.specs.Format.{Format, IsSound, Short, reading}
use Rattle.packet_stream.specs.Split.{Position, reads, split}
use Rattle.packet_stream.proofs.Laws.{reads_steady, split-is}

pub split-empty : {S P : Type 0} (format : S → Format P Reason) (next : S → P → S) → ((s : S) → IsSound (format s)) → (a : Position S) → reading (format a.state) [] ≡ Short →
    split (reads format next) a [] ≡ record { packets = []; wrong = None; position = a; rest = [] }
split-empty format next sound a short = split-is (reads format next) (reads_steady format next sound) a [] Short short
