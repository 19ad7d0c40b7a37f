use Rattle.std.proofs.Common.{◌≡◌, ℕ, List, sym, ap, subst, ◌∙◌, take, drop, arith}
use Rattle.std.proofs.lemmas.List.{drop-drop}
use Rattle.usb_base.specs.declared.reason.Reason.TheVariants.{DataLength}
use Rattle.packet_stream.specs.Format.{Whole, Wrong, reading}
use Rattle.packet_stream.specs.Reads.{WantsMemory}
use Rattle.redir_wire.specs.Table.{fixed_length}
use Rattle.redir_wire.specs.Bodies.{behind}
use Rattle.redir_data.specs.declared.packet.RedirData.{RedirData}
use Rattle.redir_data.specs.Carrying.{transfers, has_data}
use Rattle.redir_data.specs.Places.{fixed}
use Rattle.redir_data.specs.inner.Past.{with_body}
use Rattle.redir_data.specs.sound.Checks.{sum_is, is_numbered, least_length, read_wrong, read_short, read_whole}
use Rattle.redir_data.proofs.Behind.{whole_is, with_body_is, wants}
use Rattle.redir_data.proofs.read.take_data.Goals as goal

pub unreachable-requires : goal.unreachable-requires
unreachable-requires g c = is_numbered c.args.caps c.args.head.now c.requires.carrying c.requires.its_length (sym c.numbered.ensures ∙ c.in_default.is)

pub returns-then-not-has_fields-clause-exact : goal.returns-then-not-has_fields-clause-exact
returns-then-not-has_fields-clause-exact g c =
    let a = c.args in
    let b = c.behind-front.result.now in
    let same = c.behind-front.ensures ∙ ap (drop a.size) c.as_slice.ensures in
    let k = c.in-Some.kind in
    let kind = sym c.numbered.ensures ∙ c.in-Some.is in
    let f : c.fixed-fixed.result ≡ fixed a.caps k = c.fixed-fixed.ensures.value ∙ ap (fixed_length a.caps) c.row.ensures in
    let least = least_length a.caps a.head.now k kind c.requires.its_length in
    ap (reading (behind (transfers a.caps a.way) a.head.now)) (sym same) ∙ read_short a.caps a.way a.head.now k b kind (λ there. absurd (omega (arith, c.if-not-has_fields.true))) (omega (arith, c.if-not-has_fields.true))

pub returns-then-head-fixed-clause-exact : goal.returns-then-head-fixed-clause-exact
returns-then-head-fixed-clause-exact g c =
    let a = c.args in
    let b = c.behind-front.result.now in
    let same = c.behind-front.ensures ∙ ap (drop a.size) c.as_slice.ensures in
    let k = c.in-Some.kind in
    let kind = sym c.numbered.ensures ∙ c.in-Some.is in
    let f : c.fixed-fixed.result ≡ fixed a.caps k = c.fixed-fixed.ensures.value ∙ ap (fixed_length a.caps) c.row.ensures in
    let sum = sum_is a.caps a.way k b c.fixed-fixed.result c.told_length-told.result c.data_count-count.result f c.told_length-told.ensures.value c.data_count-count.ensures in
    ap (reading (behind (transfers a.caps a.way) a.head.now)) (sym same) ∙ read_wrong a.caps a.way a.head.now k b kind (omega (arith, c.if-not-has_fields.false)) (λ e. c.if-head-fixed.true (e ∙ sym sum)) ∙ ap (λ (p : ℕ). Wrong p DataLength) (sym c.length_place-place.ensures)

pub returns-then-front-head-clause-exact : goal.returns-then-front-head-clause-exact
returns-then-front-head-clause-exact g c =
    let a = c.args in
    let b = c.behind-front.result.now in
    let same = c.behind-front.ensures ∙ ap (drop a.size) c.as_slice.ensures in
    let k = c.in-Some.kind in
    let kind = sym c.numbered.ensures ∙ c.in-Some.is in
    let f : c.fixed-fixed.result ≡ fixed a.caps k = c.fixed-fixed.ensures.value ∙ ap (fixed_length a.caps) c.row.ensures in
    let sum = sum_is a.caps a.way k b c.fixed-fixed.result c.told_length-told.result c.data_count-count.result f c.told_length-told.ensures.value c.data_count-count.ensures in
    ap (reading (behind (transfers a.caps a.way) a.head.now)) (sym same) ∙ read_short a.caps a.way a.head.now k b kind (λ _. c.if-head-fixed.false ∙ sum) c.if-front-head.true

pub returns-in-Ok-clause-exact : goal.returns-in-Ok-clause-exact
returns-in-Ok-clause-exact g c =
    let a = c.args in
    let b = c.behind-front.result.now in
    let same = c.behind-front.ensures ∙ ap (drop a.size) c.as_slice.ensures in
    let k = c.in-Some.kind in
    let kind = sym c.numbered.ensures ∙ c.in-Some.is in
    let f : c.fixed-fixed.result ≡ fixed a.caps k = c.fixed-fixed.ensures.value ∙ ap (fixed_length a.caps) c.row.ensures in
    let sum = sum_is a.caps a.way k b c.fixed-fixed.result c.told_length-told.result c.data_count-count.result f c.told_length-told.ensures.value c.data_count-count.ensures in
    let count = c.data_count-count.result in
    let told = c.told_length-told.result in
    let body = c.in-Ok.body in
    let place = sym (drop-drop c.fixed-fixed.result a.size (g.B.PacketBytes.contents a.bytes.now)) ∙ ap (drop c.fixed-fixed.result) (sym same) in
    let d = whole_is a.caps k b a.head.now.length c.fixed-fixed.result told count body f c.told_length-told.ensures.value c.if-head-fixed.false (c.in-Ok.ensures.part ∙ ap (take count) place) in
    let fields = c.set_body.ensures ∙ ap (λ (x : RedirData). with_body x body) c.fields_with-packet.ensures ∙ with_body_is k b told c.new.result body in
    ap (reading (behind (transfers a.caps a.way) a.head.now)) (sym same) ∙ read_whole a.caps a.way a.head.now k b kind (c.if-head-fixed.false ∙ sum) c.if-front-head.false ∙ ap (λ (x : RedirData). Whole x a.head.now.length) (sym (fields ∙ d))

pub returns-in-Err-clause-exact : goal.returns-in-Err-clause-exact
returns-in-Err-clause-exact g c =
    let a = c.args in
    let b = c.behind-front.result.now in
    let same = c.behind-front.ensures ∙ ap (drop a.size) c.as_slice.ensures in
    let k = c.in-Some.kind in
    let kind = sym c.numbered.ensures ∙ c.in-Some.is in
    let f : c.fixed-fixed.result ≡ fixed a.caps k = c.fixed-fixed.ensures.value ∙ ap (fixed_length a.caps) c.row.ensures in
    let sum = sum_is a.caps a.way k b c.fixed-fixed.result c.told_length-told.result c.data_count-count.result f c.told_length-told.ensures.value c.data_count-count.ensures in
    subst (λ (x : List ℕ). WantsMemory has_data (reading (behind (transfers a.caps a.way) a.head.now) x)) same
    (wants a.caps a.way a.head.now k b c.fixed-fixed.result c.data_count-count.result kind (c.if-head-fixed.false ∙ sum) c.if-front-head.false f c.if-head-fixed.false c.in-Err.ensures.wants)
