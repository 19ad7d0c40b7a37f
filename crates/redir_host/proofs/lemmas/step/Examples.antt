-- Rows of acts with their bytes, laid out by hand: the definitions compute them.
use Rattle.std.proofs.Common.{◌≡◌, ℕ, List, [], ◌∷◌, ◌++◌, take, drop, replicate, codes, refl}
use Rattle.usb_base.specs.Number.{le, le_at}
use Rattle.usb_base.specs.declared.reason.Reason.TheVariants.{UnknownType}
use Rattle.packet_stream.specs.Split.{split}
use Rattle.redir_wire.specs.Words.{numbers_of}
use Rattle.redir_wire.specs.Table.{plain_numbered, data_numbered}
use Rattle.control_route.specs.Routes.{route_of}
use Rattle.model_device.specs.Device.{meaning_of, first_state}
use Rattle.model_device.specs.Keyboard.{keyboard}
use Rattle.model_device.specs.Loopback.{loopback}
use Rattle.redir_host.specs.declared.write.note.HostNote.{HostNote}
use Rattle.redir_host.specs.declared.write.note.HostNote.TheVariants.{Cancelled, Refused}
use Rattle.redir_host.specs.device.Facts.{column}
use Rattle.redir_host.specs.step.Acts.{Act, Piece, Perform, Offer, Unplug}
use Rattle.redir_host.specs.write.Output.{host_out, act_bytes, act_notes}

-- ---- a host of the loop

-- all bytes to the guest, those of one act more, and what that tells
sent : List Act → List ℕ
unfolding loopback
sent acts = host_out (meaning_of loopback) (first_state loopback) acts

more : List Act → Act → List ℕ
unfolding loopback
more acts a = act_bytes (meaning_of loopback) (first_state loopback) acts a

told : List Act → Act → List HostNote
unfolding loopback
told acts a = act_notes (meaning_of loopback) (first_state loopback) acts a

-- the guest's hello, and the host's
abbrev gh : List ℕ
gh = 0 ∷ 0 ∷ 0 ∷ 0 ∷ 0x44 ∷ 0 ∷ 0 ∷ 0 ∷ 0 ∷ 0 ∷ 0 ∷ 0 ∷ codes "usbgate 1" ++ replicate 55 0 ++ 0x7a ∷ 0 ∷ 0 ∷ 0 ∷ []

abbrev hg : List ℕ
hg = 0 ∷ 0 ∷ 0 ∷ 0 ∷ 0x44 ∷ 0 ∷ 0 ∷ 0 ∷ 0 ∷ 0 ∷ 0 ∷ 0 ∷ codes "usbgate host 1" ++ replicate 50 0 ++ 0x7a ∷ 0 ∷ 0 ∷ 0 ∷ []

-- the endpoints and interfaces of the loop without a configuration, and the loop itself
abbrev epu : List ℕ
epu =
    5 ∷ 0 ∷ 0 ∷ 0 ∷ 0xa0 ∷ 0 ∷ 0 ∷ 0 ∷ replicate 8 0 ++ (0 ∷ replicate 15 0xff) ++ (0 ∷ replicate 15 0xff) ++ replicate 64 0
    ++ (0x40 ∷ 0 ∷ replicate 30 0) ++ (0x40 ∷ 0 ∷ replicate 30 0)

abbrev iiu : List ℕ
iiu = 4 ∷ 0 ∷ 0 ∷ 0 ∷ 0x84 ∷ 0 ∷ 0 ∷ 0 ∷ replicate 8 0 ++ replicate 132 0

abbrev dc10 : List ℕ
dc10 = 1 ∷ 0 ∷ 0 ∷ 0 ∷ 0x0a ∷ 0 ∷ 0 ∷ 0 ∷ replicate 8 0 ++ 2 ∷ 0 ∷ 0 ∷ 0 ∷ 0xf0 ∷ 0xff ∷ 2 ∷ 0 ∷ 0 ∷ 1 ∷ []

-- with its configuration
abbrev epl : List ℕ
epl =
    5 ∷ 0 ∷ 0 ∷ 0 ∷ 0xa0 ∷ 0 ∷ 0 ∷ 0 ∷ replicate 8 0 ++ (0 ∷ 2 ∷ replicate 14 0xff) ++ (0 ∷ 2 ∷ replicate 14 0xff) ++ replicate 64 0
    ++ (0x40 ∷ 0 ∷ 0 ∷ 2 ∷ replicate 28 0) ++ (0x40 ∷ 0 ∷ 0 ∷ 2 ∷ replicate 28 0)

abbrev ii8 : List ℕ
ii8 = 4 ∷ 0 ∷ 0 ∷ 0 ∷ 0x84 ∷ 0 ∷ 0 ∷ 0 ∷ replicate 8 0 ++ 1 ∷ 0 ∷ 0 ∷ 0 ∷ replicate 32 0 ++ 0xff ∷ replicate 31 0 ++ replicate 64 0

-- a header behind the hellos, with an id of eight bytes
abbrev head : ℕ → ℕ → ℕ → List ℕ
head kind len id = kind ∷ 0 ∷ 0 ∷ 0 ∷ len ∷ 0 ∷ 0 ∷ 0 ∷ id ∷ replicate 7 0

none : sent [] ≡ hg
unfolding sent loopback le
none = refl

hello : sent (Piece gh ∷ []) ≡ hg ++ epu ++ iiu ++ dc10
unfolding sent loopback le le_at split column plain_numbered data_numbered numbers_of
hello = refl

-- the packets come whole however their bytes are cut
cut : more (Piece (take 20 gh) ∷ []) (Piece (drop 20 gh)) ≡ epu ++ iiu ++ dc10
unfolding more loopback le le_at split column plain_numbered data_numbered numbers_of
cut = refl

wrong : told (Piece gh ∷ []) (Piece (head 30 0 7)) ≡ Refused 80 UnknownType ∷ []
unfolding told loopback le le_at split column plain_numbered data_numbered numbers_of
wrong = refl

-- set_configuration 1
abbrev configures : List Act
configures = Piece (head 6 1 1 ++ 1 ∷ []) ∷ Piece gh ∷ []

abbrev configured : List Act
configured = Perform 0 ∷ configures

set : more configures (Perform 0x80) ≡ epl ++ ii8 ++ head 8 2 1 ++ 0 ∷ 1 ∷ []
unfolding more loopback le le_at split column plain_numbered data_numbered numbers_of route_of
set = refl

-- four bytes to endpoint 1
abbrev gives : List Act
gives = Piece (head 0x65 14 2 ++ 1 ∷ 0 ∷ 4 ∷ replicate 7 0 ++ 0xa1 ∷ 0xa2 ∷ 0xa3 ∷ 0xa4 ∷ []) ∷ configured

given : more gives (Perform 1) ≡ head 0x65 10 2 ++ 1 ∷ 0 ∷ 4 ∷ replicate 7 0
unfolding more loopback le le_at split column plain_numbered data_numbered numbers_of route_of
given = refl

unplugged : more (Perform 1 ∷ gives) Unplug ≡ head 2 0 0
unfolding more loopback le le_at split column plain_numbered data_numbered numbers_of route_of
unplugged = refl

-- four bytes of endpoint 0x81, which the loop doesn't have yet
abbrev wants : List Act
wants = Piece (head 0x65 10 3 ++ 0x81 ∷ 0 ∷ 4 ∷ replicate 7 0) ∷ configured

cancelled : more wants (Piece (head 0x15 0 3)) ≡ head 0x65 10 3 ++ 0x81 ∷ 1 ∷ replicate 8 0
unfolding more loopback le le_at split column plain_numbered data_numbered numbers_of route_of
cancelled = refl

noted : told wants (Piece (head 0x15 0 3)) ≡ Cancelled 3 ∷ []
unfolding told loopback le le_at split column plain_numbered data_numbered numbers_of route_of
noted = refl

-- a reset and a get_configuration: the reset alone is performed, and flushes what waits
reset : more (Piece (head 3 0 4 ++ head 7 0 5) ∷ wants) (Perform 0) ≡ head 0x65 10 3 ++ 0x81 ∷ 1 ∷ replicate 8 0 ++ epu ++ iiu ++ head 8 2 5 ++ 0 ∷ 0 ∷ []
unfolding more loopback le le_at split column plain_numbered data_numbered numbers_of route_of
reset = refl

-- ---- a host of the keyboard

types : List Act → Act → List ℕ
unfolding keyboard
types acts a = act_bytes (meaning_of keyboard) (first_state keyboard) acts a

started : types configured (Piece (head 0x0f 1 2 ++ 0x81 ∷ [])) ≡ head 0x11 2 2 ++ 0 ∷ 0x81 ∷ []
unfolding types keyboard le le_at split column plain_numbered data_numbered numbers_of route_of
started = refl

offered : types (Piece (head 0x0f 1 2 ++ 0x81 ∷ []) ∷ configured) (Offer 0x81) ≡ head 0x67 12 0 ++ 0x81 ∷ 0 ∷ 8 ∷ 0 ∷ 0 ∷ 0 ∷ 4 ∷ replicate 5 0
unfolding types keyboard le le_at split column plain_numbered data_numbered numbers_of route_of
offered = refl
