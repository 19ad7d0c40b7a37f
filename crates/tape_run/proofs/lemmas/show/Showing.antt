-- A stream's packets are shown as they become whole, and what that adds is what its text gains.
use Rattle.std.proofs.Common.{◌≡◌, ℕ, zero, suc, Bool, true, false, cond, ◌||◌, List, [], ◌∷◌, ◌++◌, length, drop, Option, Some, None, is_some, Result, Ok, Err, refl, sym, ap, subst, ◌∙◌, append_assoc}
use Rattle.std.specs.Result.{IsErrAnd}
use Rattle.std.proofs.lemmas.List.{append-nil, drop_at}
use Rattle.std.proofs.Math.Seq.{drop-length}
use Rattle.std.proofs.lemmas.Bool.{false≢true}
use Rattle.std.proofs.Math.Bool.{or-true}
use Rattle.usb_base.specs.declared.reason.Reason.{Reason}
use Rattle.usb_base.specs.Refusal.{refusal_line}
use Rattle.packet_stream.specs.declared.read.ReadError.{ReadError}
use Rattle.packet_stream.specs.declared.read.ReadError.TheVariants.{Refused, Memory}
use Rattle.packet_stream.specs.Split.{Reader, Splitting, split}
use Rattle.packet_stream.specs.Streams.{StreamView, capped, passed, FollowsBy, Follows, Drained, Wrongs, Answered, Nexts, Changes, after_piece, after_piece_by, Puts}
use Rattle.packet_stream.proofs.Following.{changed_to}
use Rattle.gate_history.specs.step.Events.{PastEvent}
use Rattle.tape_run.specs.Show.{Shown, packet_lines, wrong_line, split_text, stream_split, was_wrong, is_wrong, stream_text, show_side}
use Rattle.usb_base.specs.Lists.{gained}
use Rattle.tape_run.specs.inner.show.Shown.{HasNone}
use Rattle.tape_run.specs.inner.show.Show.{HasShown, ShowsEvent, Shows, ShowsSoFar, Showed, ShowsPackets}

-- ---- lines

lines-append : {S P : Type 0} (shown : Shown S P) (xs ys : List (ℕ × P)) → packet_lines shown (xs ++ ys) ≡ packet_lines shown xs ++ packet_lines shown ys
lines-append shown [] ys = refl
lines-append shown (x ∷ xs) ys =
    ap (λ (l : List ℕ). shown.line (capped x.0) x.1 ++ l) (lines-append shown xs ys) ∙ sym (append_assoc (shown.line (capped x.0) x.1) (packet_lines shown xs) (packet_lines shown ys))

-- behind the lines that there were
behind : (before more : List ℕ) → drop (length (before ++ [])) (before ++ more) ≡ more
behind before more = ap (λ (l : List ℕ). drop (length l) (before ++ more)) (append-nil before) ∙ drop_at before more (length before) refl

abbrev nothing_there : List ℕ
nothing_there = []

drop-none : (n : ℕ) → drop n nothing_there ≡ nothing_there
drop-none zero = refl
drop-none (suc n) = refl

-- ---- the packets of a stream

module _ {S P : Type 0} (shown : Shown S P) where
  next_at : (takes : P → Bool) (kept new : StreamView S) (bytes : List ℕ) (given : List (ℕ × P)) (result answer : Result (Option (ℕ × P)) ReadError) → Nexts shown.reader takes result kept new → result ≡ answer
      → Follows shown.reader shown.start kept bytes given → Answered shown.reader takes shown.start answer new bytes given
  next_at takes kept new bytes given result answer next is f =
      subst (λ (x : Result (Option (ℕ × P)) ReadError). Answered shown.reader takes shown.start x new bytes given) is (next shown.start bytes given f)

  -- one more is shown
  pub goes-more : (takes : P → Bool) (old kept new : StreamView S) (text_old text text_new : List ℕ) (result : Result (Option (ℕ × P)) ReadError) (i : ℕ × P) → ShowsSoFar shown old kept text_old text → Nexts shown.reader takes result kept new
      → result ≡ Ok (Some i) → text_new ≡ text ++ shown.line i.0 i.1 → ShowsSoFar shown old new text_old text_new
  goes-more takes old kept new text_old text text_new result i goes next is text-is = λ bytes given f.
      let w = goes bytes given f in
      let n = next_at takes kept new bytes (given ++ w.more) result (Ok (Some i)) next is w.follows in
      let one : List (ℕ × P) = (n.at, i.1) ∷ [] in
      record {
        more = w.more ++ one;
        follows = subst (λ (g : List (ℕ × P)). Follows shown.reader shown.start new bytes g) (append_assoc given w.more one) n.follows;
        text-is = text-is ∙ ap (λ (l : List ℕ). l ++ shown.line i.0 i.1) w.text-is ∙ append_assoc text_old (packet_lines shown w.more) (shown.line i.0 i.1)
            ∙ ap (λ (l : List ℕ). text_old ++ l) (ap (λ (place : ℕ). packet_lines shown w.more ++ shown.line place i.1) n.place-is
            ∙ ap (λ (l : List ℕ). packet_lines shown w.more ++ l) (sym (append-nil (shown.line (capped n.at) i.1))) ∙ sym (lines-append shown w.more one));
      }

  passed_by : (r : Reader S P Reason) (kept : StreamView S) (x : Splitting S P Reason) (given : List (ℕ × P)) (over : Bool) → FollowsBy r kept x given over → FollowsBy r (passed kept) x given over
  passed_by r kept x given false f = record { at = f.at; parts = f.parts; place = f.place; state = f.state; fits = f.fits }
  passed_by r kept x given true f = f

  follows-passed : (kept new : StreamView S) (bytes : List ℕ) (given : List (ℕ × P)) → new ≡ passed kept → Follows shown.reader shown.start kept bytes given → Follows shown.reader shown.start new bytes given
  follows-passed kept new bytes given is f =
      subst (λ (k : StreamView S). Follows shown.reader shown.start k bytes given) (sym is)
      (record { fits = f.fits; follows = passed_by shown.reader kept (split shown.reader shown.start bytes) given kept.over f.follows })

  refused-none : {A : Type 0} (v : Unit {0}) (place : ℕ) (reason : Reason) → Ok v ≡ Err (Refused place reason) → A
  refused-none v place reason is = cc

  -- all are shown
  pub shows-all : (takes : P → Bool) (v : Unit {0}) (old kept new : StreamView S) (text_old text : List ℕ) (result : Result (Option (ℕ × P)) ReadError) → kept.over ≡ old.over → ShowsSoFar shown old kept text_old text → Changes result kept new → Nexts shown.reader takes result kept new
      → result ≡ Ok None → ShowsPackets shown (Ok v) old new text_old text
  shows-all takes v old kept new text_old text result over goes changes next is =
      let same = changed_to kept new result (Ok None) changes is in
      record {
        over = λ v e. ap (λ (k : StreamView S). k.over) same ∙ over;
        ends = λ place reason is. refused-none v place reason is;
        shows = λ bytes given f.
            let w = goes bytes given f in
            record {
              more = w.more;
              drained = next_at takes kept new bytes (given ++ w.more) result (Ok None) next is w.follows;
              follows = follows-passed kept new bytes (given ++ w.more) same w.follows;
              text-is = w.text-is;
            };
      }

  err-ok : {A : Type 0} (e : ReadError) (v : Unit {0}) → Err e ≡ Ok v → A
  err-ok e v is = cc

  stopped : (takes : P → Bool) (old kept new : StreamView S) (text_old text : List ℕ) (result : Result (Option (ℕ × P)) ReadError) (e : ReadError) (bytes : List ℕ) (given : List (ℕ × P)) → Shows shown kept bytes given text_old text
      → Nexts shown.reader takes result kept new → result ≡ Err e → Showed shown (Err e) new bytes given text_old text
  stopped takes old kept new text_old text result (Refused place reason) bytes given w next is =
      record { more = w.more; wrongs = next_at takes kept new bytes (given ++ w.more) result (Err (Refused place reason)) next is w.follows; text-is = w.text-is }
  stopped takes old kept new text_old text result (Memory memory) bytes given w next is = tt

  -- a wrong place ends the stream
  wrong-ends : (old kept new : StreamView S) (result : Result (Option (ℕ × P)) ReadError) (e : ReadError) (place : ℕ) (reason : Reason) → kept.over ≡ old.over → Changes result kept new → result ≡ Err e → e ≡ Refused place reason
      → (old.over ≡ false) × (new.over ≡ true)
  wrong-ends old kept new result e place reason over changes is why =
      let changed = changed_to kept new result (Err (Refused place reason)) changes (is ∙ ap (λ (x : ReadError). Err x) why) in (
        sym over ∙ changed.0,
        ap (λ (k : StreamView S). k.over) changed.1,
      )

  err-is : (x y : ReadError) (r : Result (Unit {0}) ReadError) → r ≡ Err x → r ≡ Err y → x ≡ y
  err-is x y r one other = cc

  -- the next one is wrong, or memory runs out for it
  pub shows-err : (takes : P → Bool) (old kept new : StreamView S) (text_old text : List ℕ) (result : Result (Option (ℕ × P)) ReadError) (e : ReadError) → kept.over ≡ old.over → ShowsSoFar shown old kept text_old text → Changes result kept new
      → Nexts shown.reader takes result kept new → result ≡ Err e → ShowsPackets shown (Err e) old new text_old text
  shows-err takes old kept new text_old text result e over goes changes next is = record {
    over = λ v is. err-ok e v is;
    ends = λ place reason why. wrong-ends old kept new result e place reason over changes is (err-is e (Refused place reason) (Err e) refl why);
    shows = λ bytes given f. stopped takes old kept new text_old text result e bytes given (goes bytes given f) next is;
  }

  -- an error that is handed on
  pub shows-handed : (takes : P → Bool) (old kept new : StreamView S) (text_old text : List ℕ) (result : Result (Option (ℕ × P)) ReadError) (e : ReadError) (last : Result (Unit {0}) ReadError) → kept.over ≡ old.over → ShowsSoFar shown old kept text_old text
      → Changes result kept new → Nexts shown.reader takes result kept new → result ≡ Err e → IsErrAnd last (λ y. y ≡ e) → ShowsPackets shown last old new text_old text
  shows-handed takes old kept new text_old text result e (Ok v) over goes changes next is on = absurd on
  shows-handed takes old kept new text_old text result e (Err y) over goes changes next is on =
      subst (λ (z : ReadError). ShowsPackets shown (Err z) old new text_old text) (sym on) (shows-err takes old kept new text_old text result e over goes changes next is)

  -- ---- a stream that has had no bytes

  pub shown-new : (refused : Bool) (kept : StreamView S) (events : List PastEvent) → HasNone shown.reader shown.start → shown.bytes events ≡ [] → refused ≡ was_wrong shown events → kept.over ≡ false → Follows shown.reader shown.start kept [] []
      → HasShown shown refused kept events
  shown-new refused kept events none is refused-is going f = record {
    refused-is = refused-is;
    over-is = going ∙ sym (ap (λ (b : List ℕ). is_some (split shown.reader shown.start b).wrong) is ∙ ap (λ (w : Option (ℕ × Reason)). is_some w) none.right);
    over-refused = λ over. absurd (false≢true (sym going ∙ over));
    follows = subst (λ (b : List ℕ). Follows shown.reader shown.start kept b (split shown.reader shown.start b).packets) (sym is)
        (subst (λ (g : List (ℕ × P)). Follows shown.reader shown.start kept [] g) (sym none.packets) f);
  }

  pub shown-none : (kept : StreamView S) → HasNone shown.reader shown.start → shown.bytes [] ≡ [] → kept.over ≡ false → Follows shown.reader shown.start kept [] [] → HasShown shown false kept []
  shown-none kept none is going f = shown-new false kept [] none is refl going f

  -- ---- an event

  none-wrong : (w : Option (ℕ × Reason)) → is_some w ≡ false → w ≡ None
  none-wrong None is = refl
  none-wrong (Some w) is = absurd (false≢true (sym is))

  -- what an event adds to a stream that isn't wrong, and to one that is
  adds : (events : List PastEvent) (e : PastEvent) (text more : List ℕ) → is_wrong shown events ≡ false → gained (stream_text shown) events e ≡ more → text ++ more ≡ text ++ (show_side shown).text events e
  adds events e text more right is =
      ap (λ (l : List ℕ). text ++ l) (sym is ∙ ap (λ (b : Bool). cond b [] (gained (stream_text shown) events e)) (sym right))

  adds-none : (events : List PastEvent) (e : PastEvent) (text : List ℕ) → is_wrong shown events ≡ true → text ≡ text ++ (show_side shown).text events e
  adds-none events e text wrong = sym (append-nil text) ∙ ap (λ (b : Bool). text ++ cond b [] (gained (stream_text shown) events e)) (sym wrong)

  -- whether a stream was wrong, with an event behind which the present one is or isn't
  wrong-after : (refused now : Bool) (events : List PastEvent) (e : PastEvent) → refused ≡ was_wrong shown events → is_wrong shown (e ∷ events) ≡ now → (refused || now) ≡ was_wrong shown (e ∷ events)
  wrong-after refused now events e is now-is = ap (λ (b : Bool). b || now) is ∙ ap (λ (b : Bool). was_wrong shown events || b) (sym now-is)

  or-same : (a b : Bool) → (b ≡ true → a ≡ true) → a ≡ (a || b)
  or-same true b h = refl
  or-same false true h = h refl
  or-same false false h = refl

  -- the text of a stream in which nothing is wrong
  right-text : (x : Splitting S P Reason) → x.wrong ≡ None → split_text shown x ≡ packet_lines shown x.packets ++ []
  right-text x right = ap (λ (w : Option (ℕ × Reason)). packet_lines shown x.packets ++ wrong_line shown.side w) right

  -- more packets, and perhaps a wrong place
  added-more : (events : List PastEvent) (e : PastEvent) (more : List (ℕ × P)) (w : Option (ℕ × Reason)) → (stream_split shown events).wrong ≡ None → (stream_split shown (e ∷ events)).packets ≡ (stream_split shown events).packets ++ more
      → (stream_split shown (e ∷ events)).wrong ≡ w → gained (stream_text shown) events e ≡ packet_lines shown more ++ wrong_line shown.side w
  added-more events e more w right packets wrong =
      let x = stream_split shown events in
      let y = stream_split shown (e ∷ events) in
      let before = packet_lines shown x.packets in
      let later = packet_lines shown more ++ wrong_line shown.side w in
      let after : split_text shown y ≡ before ++ later =
      ap (λ (o : Option (ℕ × Reason)). packet_lines shown y.packets ++ wrong_line shown.side o) wrong ∙ ap (λ (l : List (ℕ × P)). packet_lines shown l ++ wrong_line shown.side w) packets
      ∙ ap (λ (l : List ℕ). l ++ wrong_line shown.side w) (lines-append shown x.packets more) ∙ append_assoc before (packet_lines shown more) (wrong_line shown.side w) in
      ap (λ (l : List ℕ). drop (length l) (split_text shown y)) (right-text x right) ∙ ap (drop (length (before ++ []))) after ∙ behind before later

  over_after : (kept : StreamView S) (piece : List ℕ) (over : Bool) → kept.over ≡ over → (after_piece kept piece).over ≡ over
  over_after kept piece true is = ap (λ (b : Bool). (after_piece_by kept piece b).over) is ∙ is
  over_after kept piece false is = ap (λ (b : Bool). (after_piece_by kept piece b).over) is ∙ is

  -- of a stream that is over all packets were given, and something in it is wrong
  closed : (kept : StreamView S) (bytes : List ℕ) (given : List (ℕ × P)) → kept.over ≡ true → Follows shown.reader shown.start kept bytes given
      → ((split shown.reader shown.start bytes).packets ≡ given) × (is_some (split shown.reader shown.start bytes).wrong ≡ true)
  closed kept bytes given over f =
      let c = subst (λ (b : Bool). FollowsBy shown.reader kept (split shown.reader shown.start bytes) given b) over f.follows in
      (c.packets, ap (λ (w : Option (ℕ × Reason)). is_some w) c.wrong)

  no-more : (xs more : List (ℕ × P)) → xs ≡ xs ++ more → more ≡ []
  no-more [] more is = sym is
  no-more (x ∷ xs) more is = no-more xs more cc

  -- a piece has come to a stream that is over
  sees-over : (events : List PastEvent) (e : PastEvent) (piece : List ℕ) (refused : Bool) (old put new : StreamView S) (text_old text_new : List ℕ) (v : Unit {0}) → old.over ≡ true → shown.bytes (e ∷ events) ≡ shown.bytes events ++ piece
      → put ≡ after_piece old piece → Puts shown.reader piece old put → ShowsPackets shown (Ok v) put new text_old text_new → HasShown shown refused old events
      → (text_new ≡ text_old ++ (show_side shown).text events e) × HasShown shown refused new (e ∷ events)
  sees-over events e piece refused old put new text_old text_new v over bytes-is put-is puts shows h =
      let x = (stream_split shown events).packets in
      let all = shows.shows (shown.bytes events ++ piece) x (puts shown.start (shown.bytes events) x h.follows) in
      let put_over : put.over ≡ true = ap (λ (k : StreamView S). k.over) put-is ∙ over_after old piece true over in
      let new_over : new.over ≡ true = shows.over v refl ∙ put_over in
      let before = closed put (shown.bytes events ++ piece) x put_over (puts shown.start (shown.bytes events) x h.follows) in
      let after = closed new (shown.bytes events ++ piece) (x ++ all.more) new_over all.follows in
      let none = no-more x all.more (sym before.0 ∙ after.0) in
      let wrong : is_wrong shown (e ∷ events) ≡ true = ap (λ (b : List ℕ). is_some (split shown.reader shown.start b).wrong) bytes-is ∙ before.1 in
      let refused-now = h.over-refused over in (
        all.text-is ∙ ap (λ (m : List (ℕ × P)). text_old ++ packet_lines shown m) none ∙ append-nil text_old ∙ adds-none events e text_old (sym h.over-is ∙ over),
        record {
          refused-is = or-same refused true (λ t. refused-now) ∙ wrong-after refused true events e h.refused-is wrong;
          over-is = new_over ∙ sym wrong;
          over-refused = λ o. refused-now;
          follows = subst (λ (b : List ℕ). Follows shown.reader shown.start new b (split shown.reader shown.start b).packets) (sym bytes-is)
              (subst (λ (g : List (ℕ × P)). Follows shown.reader shown.start new (shown.bytes events ++ piece) g) (sym after.0) all.follows);
        },
      )

  -- a piece has come to one that isn't
  sees-going : (events : List PastEvent) (e : PastEvent) (piece : List ℕ) (refused : Bool) (old put new : StreamView S) (text_old text_new : List ℕ) (v : Unit {0}) → old.over ≡ false → shown.bytes (e ∷ events) ≡ shown.bytes events ++ piece
      → put ≡ after_piece old piece → Puts shown.reader piece old put → ShowsPackets shown (Ok v) put new text_old text_new → HasShown shown refused old events
      → (text_new ≡ text_old ++ (show_side shown).text events e) × HasShown shown refused new (e ∷ events)
  sees-going events e piece refused old put new text_old text_new v over bytes-is put-is puts shows h =
      let right = sym h.over-is ∙ over in
      let x = (stream_split shown events).packets in
      let all = shows.shows (shown.bytes events ++ piece) x (puts shown.start (shown.bytes events) x h.follows) in
      let going : new.over ≡ false = shows.over v refl ∙ ap (λ (k : StreamView S). k.over) put-is ∙ over_after old piece false over in
      let drained = subst (λ (b : List ℕ). Drained new (split shown.reader shown.start b) (x ++ all.more)) (sym bytes-is) (all.drained going) in
      let follows = subst (λ (b : List ℕ). Follows shown.reader shown.start new b (x ++ all.more)) (sym bytes-is) all.follows in
      let now : is_wrong shown (e ∷ events) ≡ false = ap (λ (w : Option (ℕ × Reason)). is_some w) drained.right in (
        all.text-is ∙ adds events e text_old (packet_lines shown all.more) right
            (added-more events e all.more None (none-wrong (stream_split shown events).wrong right) drained.packets drained.right ∙ append-nil (packet_lines shown all.more)),
        record {
          refused-is = or-same refused false (λ t. absurd (false≢true t)) ∙ wrong-after refused false events e h.refused-is now;
          over-is = going ∙ sym now;
          over-refused = λ o. absurd (false≢true (sym going ∙ o));
          follows = subst (λ (g : List (ℕ × P)). Follows shown.reader shown.start new (shown.bytes (e ∷ events)) g) (sym drained.packets) follows;
        },
      )

  sees-by : (over : Bool) (events : List PastEvent) (e : PastEvent) (piece : List ℕ) (refused : Bool) (old put new : StreamView S) (text_old text_new : List ℕ) (v : Unit {0}) → old.over ≡ over → shown.bytes (e ∷ events) ≡ shown.bytes events ++ piece
      → put ≡ after_piece old piece → Puts shown.reader piece old put → ShowsPackets shown (Ok v) put new text_old text_new → HasShown shown refused old events
      → (text_new ≡ text_old ++ (show_side shown).text events e) × HasShown shown refused new (e ∷ events)
  sees-by true = sees-over
  sees-by false = sees-going

  -- a piece has come, and its packets are all shown
  pub sees-all : (events : List PastEvent) (e : PastEvent) (piece : List ℕ) (refused : Bool) (old put new : StreamView S) (text_old text_new : List ℕ) (v : Unit {0}) → shown.bytes (e ∷ events) ≡ shown.bytes events ++ piece
      → put ≡ after_piece old piece → Puts shown.reader piece old put → ShowsPackets shown (Ok v) put new text_old text_new → ShowsEvent shown events e refused refused old new text_old text_new
  sees-all events e piece refused old put new text_old text_new v bytes-is put-is puts shows =
      record { sees = λ h. sees-by old.over events e piece refused old put new text_old text_new v refl bytes-is put-is puts shows h }

  -- a piece has come, and something in it is wrong
  pub sees-wrong : (events : List PastEvent) (e : PastEvent) (piece : List ℕ) (refused : Bool) (old put new : StreamView S) (text_old text text_new : List ℕ) (place : ℕ) (reason : Reason) → shown.bytes (e ∷ events) ≡ shown.bytes events ++ piece
      → put ≡ after_piece old piece → Puts shown.reader piece old put → ShowsPackets shown (Err (Refused place reason)) put new text_old text
      → text_new ≡ text ++ refusal_line (record { side = shown.side; place = place; reason = reason; kept = None }) → ShowsEvent shown events e refused true old new text_old text_new
  sees-wrong events e piece refused old put new text_old text text_new place reason bytes-is put-is puts shows line = record {
    sees = λ h.
        let ends = shows.ends place reason refl in
        let old_going : old.over ≡ false = was-going old.over refl ends.0 in
        let right = sym h.over-is ∙ old_going in
        let x = (stream_split shown events).packets in
        let all = shows.shows (shown.bytes events ++ piece) x (puts shown.start (shown.bytes events) x h.follows) in
        let fits = (puts shown.start (shown.bytes events) x h.follows).fits in
        let wrongs = subst (λ (b : List ℕ). Wrongs place reason (split shown.reader shown.start b) (x ++ all.more)) (sym bytes-is) all.wrongs in
        let at : ℕ × Reason = (wrongs.at, reason) in
        let now : is_wrong shown (e ∷ events) ≡ true = ap (λ (w : Option (ℕ × Reason)). is_some w) wrongs.wrong in (
          line ∙ ap (λ (l : List ℕ). l ++ refusal_line (record { side = shown.side; place = place; reason = reason; kept = None })) all.text-is
              ∙ append_assoc text_old (packet_lines shown all.more) (refusal_line (record { side = shown.side; place = place; reason = reason; kept = None }))
              ∙ ap (λ (n : ℕ). text_old ++ (packet_lines shown all.more ++ refusal_line (record { side = shown.side; place = n; reason = reason; kept = None }))) wrongs.place-is
              ∙ adds events e text_old (packet_lines shown all.more ++ wrong_line shown.side (Some at)) right
              (added-more events e all.more (Some at) (none-wrong (stream_split shown events).wrong right) wrongs.packets wrongs.wrong),
          record {
            refused-is = sym (or-true refused) ∙ wrong-after refused true events e h.refused-is now;
            over-is = ends.1 ∙ sym now;
            over-refused = λ o. refl;
            follows = subst (λ (b : List ℕ). Follows shown.reader shown.start new b (split shown.reader shown.start b).packets) (sym bytes-is) (record {
              fits = fits;
              follows = subst (λ (b : Bool). FollowsBy shown.reader new (split shown.reader shown.start (shown.bytes events ++ piece)) (split shown.reader shown.start (shown.bytes events ++ piece)).packets b) (sym ends.1)
                  (record { packets = refl; at = (all.wrongs.at, reason); wrong = all.wrongs.wrong });
            });
          },
        );
  }
    where
      was-going : (b : Bool) → old.over ≡ b → put.over ≡ false → old.over ≡ false
      was-going false is going = is
      was-going true is going = absurd (false≢true (sym going ∙ ap (λ (k : StreamView S). k.over) put-is ∙ over_after old piece true is))

  -- an event that isn't the side's
  pub sees-other : (events : List PastEvent) (e : PastEvent) (refused : Bool) (kept : StreamView S) (text : List ℕ) → shown.bytes (e ∷ events) ≡ shown.bytes events → ShowsEvent shown events e refused refused kept kept text text
  sees-other events e refused kept text same = record {
    sees = λ h.
        let now : is_wrong shown (e ∷ events) ≡ kept.over = ap (λ (b : List ℕ). is_some (split shown.reader shown.start b).wrong) same ∙ sym h.over-is in (
          none-added (is_wrong shown events) refl,
          record {
            refused-is = or-same refused kept.over h.over-refused ∙ wrong-after refused kept.over events e h.refused-is now;
            over-is = sym now;
            over-refused = h.over-refused;
            follows = subst (λ (b : List ℕ). Follows shown.reader shown.start kept b (split shown.reader shown.start b).packets) (sym same) h.follows;
          },
        );
  }
    where
      nothing : gained (stream_text shown) events e ≡ []
      nothing = ap (λ (b : List ℕ). drop (length (split_text shown (stream_split shown events))) (split_text shown (split shown.reader shown.start b))) same ∙ drop-length (split_text shown (stream_split shown events))

      none-added : (b : Bool) → is_wrong shown events ≡ b → text ≡ text ++ (show_side shown).text events e
      none-added true is = adds-none events e text is
      none-added false is = sym (append-nil text) ∙ adds events e text [] is nothing

  -- the end of a stream: the next one begins
  pub sees-end : (events : List PastEvent) (e : PastEvent) (refused : Bool) (old new : StreamView S) (text : List ℕ) → HasNone shown.reader shown.start → shown.bytes (e ∷ events) ≡ [] → new.over ≡ false → Follows shown.reader shown.start new [] []
      → ShowsEvent shown events e refused refused old new text text
  sees-end events e refused old new text none is going f = record {
    sees = λ h.
        let now : is_wrong shown (e ∷ events) ≡ false = ap (λ (b : List ℕ). is_some (split shown.reader shown.start b).wrong) is ∙ ap (λ (w : Option (ℕ × Reason)). is_some w) none.right in (
          none-added (is_wrong shown events) refl,
          shown-new refused new (e ∷ events) none is (or-same refused false (λ t. absurd (false≢true t)) ∙ wrong-after refused false events e h.refused-is now) going f,
        );
  }
    where
      text-none : split_text shown (stream_split shown (e ∷ events)) ≡ []
      text-none = ap (λ (b : List ℕ). split_text shown (split shown.reader shown.start b)) is ∙ ap (λ (ps : List (ℕ × P)). packet_lines shown ps ++ wrong_line shown.side (split shown.reader shown.start []).wrong) none.packets
          ∙ ap (λ (w : Option (ℕ × Reason)). wrong_line shown.side w) none.right

      nothing : gained (stream_text shown) events e ≡ []
      nothing = ap (drop (length (split_text shown (stream_split shown events)))) text-none ∙ drop-none (length (split_text shown (stream_split shown events)))

      none-added : (b : Bool) → is_wrong shown events ≡ b → text ≡ text ++ (show_side shown).text events e
      none-added true is = adds-none events e text is
      none-added false is = sym (append-nil text) ∙ adds events e text [] is nothing
