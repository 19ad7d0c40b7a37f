-- The numbers and names of the reasons for a refusal.
use Rattle.std.specs.Prelude.{ℕ, List, codes}
use Rattle.usb_base.specs.declared.reason.Reason.{Reason}
use Rattle.usb_base.specs.declared.reason.Reason.TheVariants.{Version, OpCode, Command, Device, Direction, Endpoint, TooLong, Packets, NotImported, AlreadyImported, DuplicateSeq, HelloFirst, UnknownType, NotAgreed, WrongWay, BadLength, Count, TooLong26, DataLength, Mismatch, Stray, Length}

abbrev pub reason_row : Reason → ℕ × List ℕ
reason_row Version = (1, codes "Version")
reason_row OpCode = (2, codes "OpCode")
reason_row Command = (3, codes "Command")
reason_row Device = (4, codes "Device")
reason_row Direction = (5, codes "Direction")
reason_row Endpoint = (6, codes "Endpoint")
reason_row TooLong = (7, codes "TooLong")
reason_row Packets = (8, codes "Packets")
reason_row NotImported = (9, codes "NotImported")
reason_row AlreadyImported = (10, codes "AlreadyImported")
reason_row DuplicateSeq = (11, codes "DuplicateSeq")
reason_row HelloFirst = (20, codes "HelloFirst")
reason_row UnknownType = (21, codes "UnknownType")
reason_row NotAgreed = (22, codes "NotAgreed")
reason_row WrongWay = (23, codes "WrongWay")
reason_row BadLength = (24, codes "BadLength")
reason_row Count = (25, codes "Count")
reason_row TooLong26 = (26, codes "TooLong26")
reason_row DataLength = (27, codes "DataLength")
reason_row Mismatch = (28, codes "Mismatch")
reason_row Stray = (40, codes "Stray")
reason_row Length = (41, codes "Length")

abbrev pub number_of : Reason → ℕ
number_of reason = (reason_row reason).0

abbrev pub name_of : Reason → List ℕ
name_of reason = (reason_row reason).1
