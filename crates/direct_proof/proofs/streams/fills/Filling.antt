-- What is held of a stream fills those that wait for it: at the device attached directly that is one answer after
-- another.
use Rattle.std.proofs.Common.{◌≡◌, ℕ, ◌<◌, ◌==◌, Bool, true, false, cond, List, [], ◌∷◌, ◌++◌, length, map, Option, Some, None, is_some, refl, sym, ap, ◌∙◌, subst, arith, append-nil, append_assoc}
use Rattle.std.specs.List.{find, AllByRecursion as Each}
use Rattle.std.specs.Prelude.{slice_set, slice_get, drop, option_and_then, IsSomeAnd, IsSome}
use Rattle.std.proofs.lemmas.List.{get_or-set_same, length-set, set-get_or}
use Rattle.usb_base.specs.Endpoint.{endpoint_index}
use Rattle.std.specs.Option.{option_map}
use Rattle.std.proofs.lemmas.Bool.{and_parts}
use Rattle.usbip_urb.specs.declared.packet.UrbPacket.{UrbPacket}
use Rattle.usbip_urb.specs.declared.client.ClientPacket.{ClientPacket}
use Rattle.usbip_urb.specs.declared.client.ClientPacket.TheVariants.{Urb}
use Rattle.usb_base.specs.declared.transfer.StreamPacket.{StreamPacket}
use Rattle.stream_buffers.specs.Cuts.{Cut}
use Rattle.model_device.specs.Meaning.{Meaning}
use Rattle.redir_host.proofs.lemmas.state.Each.{each_appended}
use Rattle.gate_history.specs.host.Fillings.{Given, cut_of}
use Rattle.gate_history.specs.client.Ends.{waits_at, is_waiting}
use Rattle.gate_history.specs.write.Answers.{with_given}
use Rattle.gate_history.specs.state.Ups.{Up, stream_at, hold}
use Rattle.direct_device.specs.Direct.{Live, Direct, number, is_number, as_submission}
use Rattle.direct_device.specs.Acting.{Deed, Answer, answers, answered_by, answers_of, filled_by as fills, filled_answers, cut_for, without_number, ran_answers}
use Rattle.direct_device.specs.Legal.{CanAnswerBy}
use Rattle.direct_proof.proofs.lists.Counts.{itself}
use Rattle.direct_proof.proofs.streams.Keeping.{Does, does-nothing, does-then}
use Rattle.direct_proof.proofs.streams.fills.FillLists.{AreApart, set-twice, find-middle, filter-middle, others, apart-middle}

-- ---- what comes of those that wait, in their order

abbrev pub waits : ℕ → Live → Bool
waits ep l = waits_at ep (as_submission l.load)

pub record Filled : Type 0 where
  pub live : List Live
  pub filled : List (ℕ × UrbPacket)
  pub left : List StreamPacket

abbrev pub with_live : Live → Filled → Filled
with_live l f = record f { live = l ∷ f.live }

abbrev pub with_answer : ℕ → UrbPacket → Filled → Filled
with_answer n p f = record f { filled = (n, p) ∷ f.filled }

abbrev pub fill_by : Live → List Live → List StreamPacket → Option (Cut Given) → (List StreamPacket → Filled) → Filled
fill_by l ls held None rest = record { live = l ∷ ls; filled = []; left = held }
fill_by l ls held (Some cut) rest = with_answer (number l.load) (with_given l.load.request cut.gives) (rest cut.leaves)

abbrev pub fill_one : Bool → ℕ → Live → List Live → List StreamPacket → (List StreamPacket → Filled) → Filled
fill_one false max l ls held rest = with_live l (rest held)
fill_one true max l ls held rest = fill_by l ls held (cut_of max l.load.request held) rest

abbrev pub fill_all : ℕ → ℕ → List Live → List StreamPacket → Filled
fill_all max ep [] held = record { live = []; filled = []; left = held }
fill_all max ep (l ∷ ls) held = fill_one (waits ep l) max l ls held (fill_all max ep ls)

abbrev pub filled_deeds : Filled → List Deed
filled_deeds f = map (λ (x : ℕ × UrbPacket). Answer x.0) f.filled

abbrev pub filled_outs : Filled → List ClientPacket
filled_outs f = map (λ (x : ℕ × UrbPacket). Urb x.1) f.filled

-- ---- one answer after another

-- what the stream of an endpoint holds
pub record Holds (ups : List (Option Up)) (ep max : ℕ) (held : List StreamPacket) : Type 0 where
  pub up : Up
  pub at : stream_at ups ep ≡ Some up
  pub max-is : up.row.max_packet ≡ max
  pub held-is : up.held ≡ held
  pub place : endpoint_index ep < length ups

pub holds-again : (ups : List (Option Up)) (ep max : ℕ) (held left : List StreamPacket) → Holds ups ep max held → Holds (hold ep left ups) ep max left
holds-again ups ep max held left h = record {
  up = record h.up { held = left };
  at = get_or-set_same ups (endpoint_index ep) (option_map (λ (up : Up). record up { held = left }) (stream_at ups ep)) None h.place ∙ ap (option_map (λ (up : Up). record up { held = left })) h.at;
  max-is = h.max-is;
  held-is = refl;
  place = subst (λ (n : ℕ). endpoint_index ep < n) (sym (length-set ups (endpoint_index ep) (option_map (λ (up : Up). record up { held = left }) (stream_at ups ep)))) h.place;
}

pub hold-same : (ups : List (Option Up)) (ep max : ℕ) (held : List StreamPacket) → Holds ups ep max held → hold ep held ups ≡ ups
hold-same ups ep max held h =
    ap (λ (o : Option Up). slice_set ups (endpoint_index ep) (option_map (λ (up : Up). record up { held = held }) o)) h.at
    ∙ (λ i. slice_set ups (endpoint_index ep) (Some (record h.up { held = sym h.held-is i })))
    ∙ ap (slice_set ups (endpoint_index ep)) (sym h.at)
    ∙ set-get_or ups (endpoint_index ep) None

pub hold-twice : (ups : List (Option Up)) (ep max : ℕ) (held a b : List StreamPacket) → Holds ups ep max held → hold ep b (hold ep a ups) ≡ hold ep b ups
unfolding holds-again
hold-twice ups ep max held a b h =
    let again = holds-again ups ep max held a h in
    ap (λ (o : Option Up). slice_set (hold ep a ups) (endpoint_index ep) (option_map (λ (up : Up). record up { held = b }) o)) again.at
    ∙ set-twice ups (endpoint_index ep) _ (Some (record h.up { held = b }))
    ∙ ap (λ (o : Option Up). slice_set ups (endpoint_index ep) (option_map (λ (up : Up). record up { held = b }) o)) (sym h.at)

module _ {S : Type 0} (m : Meaning S) (ep max : ℕ) where
  abbrev pub after_fills : Direct S → List Live → Filled → Direct S
  after_fills d kept f = record d { live = kept ++ f.live; streams = hold ep f.left d.streams }

  stands : (d : Direct S) (kept ls : List Live) (held : List StreamPacket) → d.live ≡ kept ++ ls → Holds d.streams ep max held → Does m d [] (record d { live = kept ++ ls; streams = hold ep held d.streams }) []
  stands d kept ls held live holds = does-nothing m d (record d { live = kept ++ ls; streams = hold ep held d.streams }) (λ i. record d { live = live i; streams = sym (hold-same d.streams ep max held holds) i })

  -- the first that waits is answered
  answers-one : (d : Direct S) (kept : List Live) (l : Live) (ls : List Live) (held : List StreamPacket) (cut : Cut Given) → d.imported ≡ true → d.live ≡ kept ++ l ∷ ls → AreApart (kept ++ l ∷ ls) → Each (λ y. waits ep y ≡ false) kept →
      Holds d.streams ep max held → waits ep l ≡ true → cut_of max l.load.request held ≡ Some cut →
      Does m d (Answer (number l.load) ∷ []) (record d { live = kept ++ ls; streams = hold ep cut.leaves d.streams }) (Urb (with_given l.load.request cut.gives) ∷ [])
  answers-one d kept l ls held cut imported live apart ahead holds waiting cuts = record {
    same = ap (answered_by d) found ∙ ap (λ (b : Bool). cond b (fills d l.load (cut_for d l.load)) other) is_stream ∙ ap (fills d l.load) cut-is
        ∙ (λ i. record d { live = (ap (without_number n) live ∙ filter-middle (λ y. is_number n y.load) kept l ls differ.0 (itself n) differ.1) i; streams = hold (at i) cut.leaves d.streams });
    legal = ((imported, subst (λ (o : Option Live). IsSomeAnd o (λ l. CanAnswerBy d l.load (is_waiting l.load.verdict))) (sym found) (subst (CanAnswerBy d l.load) (sym is_stream) (subst (λ (o : Option Live). IsSomeAnd o (λ e. (is_number l.load.request.seqnum e.load ≡ true) × IsSome (cut_for d l.load))) (sym earliest) (itself n, ap is_some cut-is)))), tt);
    outs-are = ap (map Urb) (sym (append-nil (answers m d (Answer n)) ∙ ap (answers_of d) found ∙ ap (λ (b : Bool). cond b (filled_answers l.load (cut_for d l.load)) more) is_stream ∙ ap (filled_answers l.load) cut-is));
  }
    where
      n : ℕ
      n = number l.load

      parts : (is_waiting l.load.verdict ≡ true) × ((l.load.request.transfer.ep == ep) ≡ true)
      parts = and_parts (is_waiting l.load.verdict) (l.load.request.transfer.ep == ep) waiting

      is_stream : is_waiting l.load.verdict ≡ true
      is_stream = parts.0

      at : l.load.request.transfer.ep ≡ ep
      at = let e = parts.1 in grind (arith, e)

      differ : Each (λ (y : Live). is_number n y.load ≡ false) kept × Each (λ (y : Live). is_number n y.load ≡ false) ls
      differ = others (λ (y : Live). is_number n y.load) kept l ls (apart n) (itself n)

      found : find (λ (y : Live). is_number n y.load) d.live ≡ Some l
      found = ap (find (λ (y : Live). is_number n y.load)) live ∙ find-middle (λ (y : Live). is_number n y.load) kept l ls differ.0 (itself n)

      earliest : find (λ (e : Live). waits_at l.load.request.transfer.ep (as_submission e.load)) d.live ≡ Some l
      earliest = (λ i. find (waits (at i)) (live i)) ∙ find-middle (waits ep) kept l ls ahead waiting

      cut-up : Up → Option (Cut Given)
      cut-up up = cut_of up.row.max_packet l.load.request up.held

      cut-is : cut_for d l.load ≡ Some cut
      cut-is = ap (λ (k : ℕ). option_and_then cut-up (stream_at d.streams k)) at ∙ ap (option_and_then cut-up) holds.at ∙ (λ i. cut_of (holds.max-is i) l.load.request (holds.held-is i)) ∙ cuts

      other : Direct S
      other = record d { live = without_number (number l.load) d.live; ran = drop 1 d.ran }

      more : List UrbPacket
      more = ran_answers l (slice_get d.ran 0)

  pub chain : (kept ls : List Live) (held : List StreamPacket) (d : Direct S) → d.imported ≡ true → d.live ≡ kept ++ ls → AreApart (kept ++ ls) → Each (λ y. waits ep y ≡ false) kept → Holds d.streams ep max held →
      Does m d (filled_deeds (fill_all max ep ls held)) (after_fills d kept (fill_all max ep ls held)) (filled_outs (fill_all max ep ls held))
  chain kept [] held d imported live apart ahead holds = stands d kept [] held live holds
  chain kept (l ∷ ls) held d imported live apart ahead holds = go (waits ep l) refl (chain (kept ++ l ∷ []) ls held d imported) (λ left. chain kept ls left (record d { live = kept ++ ls; streams = hold ep left d.streams }) imported refl)
    where
      Goal : Filled → Type 0
      Goal f = Does m d (filled_deeds f) (after_fills d kept f) (filled_outs f)

      joined : (xs : List Live) → (kept ++ l ∷ []) ++ xs ≡ kept ++ l ∷ xs
      joined xs = append_assoc kept (l ∷ []) xs

      go : (b : Bool) → waits ep l ≡ b →
          (d.live ≡ (kept ++ l ∷ []) ++ ls → AreApart ((kept ++ l ∷ []) ++ ls) → Each (λ y. waits ep y ≡ false) (kept ++ l ∷ []) → Holds d.streams ep max held →
          Does m d (filled_deeds (fill_all max ep ls held)) (after_fills d (kept ++ l ∷ []) (fill_all max ep ls held)) (filled_outs (fill_all max ep ls held))) →
          ((left : List StreamPacket) → AreApart (kept ++ ls) → Each (λ y. waits ep y ≡ false) kept → Holds (hold ep left d.streams) ep max left →
          Does m (record d { live = kept ++ ls; streams = hold ep left d.streams }) (filled_deeds (fill_all max ep ls left)) (after_fills (record d { live = kept ++ ls; streams = hold ep left d.streams }) kept (fill_all max ep ls left)) (filled_outs (fill_all max ep ls left))) →
          Goal (fill_one b max l ls held (fill_all max ep ls))
      go false e skip rest =
          subst (λ (xs : List Live). Does m d (filled_deeds (fill_all max ep ls held)) (record d { live = xs; streams = hold ep (fill_all max ep ls held).left d.streams }) (filled_outs (fill_all max ep ls held))) (joined (fill_all max ep ls held).live)
          (skip (live ∙ sym (joined ls)) (subst AreApart (sym (joined ls)) apart) (each_appended (λ y. waits ep y ≡ false) kept l ahead e) holds)
      go true e skip rest = by (cut_of max l.load.request held) refl
        where
          by : (o : Option (Cut Given)) → cut_of max l.load.request held ≡ o → Goal (fill_by l ls held o (fill_all max ep ls))
          by None cuts = stands d kept (l ∷ ls) held live holds
          by (Some cut) cuts =
              let f = fill_all max ep ls cut.leaves in
              does-then m d (record d { live = kept ++ ls; streams = hold ep cut.leaves d.streams }) (after_fills d kept f)
              (Answer (number l.load) ∷ []) (filled_deeds f) (Urb (with_given l.load.request cut.gives) ∷ []) (filled_outs f)
              (answers-one d kept l ls held cut imported live apart ahead holds e cuts)
              (subst (λ (ups : List (Option Up)). Does m (record d { live = kept ++ ls; streams = hold ep cut.leaves d.streams }) (filled_deeds f) (record d { live = kept ++ f.live; streams = ups }) (filled_outs f)) (hold-twice d.streams ep max held cut.leaves f.left holds)
              (rest cut.leaves (apart-middle kept l ls apart) ahead (holds-again d.streams ep max held cut.leaves holds)))
