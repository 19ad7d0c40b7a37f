use Rattle.std.proofs.Common.{w32, to_z, of_z, ◌≡◌, ◌<◌, ◌+◌, ◌&&◌, ◌++◌, ℕ, ℤ, Bool, true, false, cond, not, List, [], length, refl, sym, ap, subst, ◌∙◌}
use Rattle.std.specs.Prelude.{filter}
use Rattle.std.specs.List.{flat_map}
use Rattle.std.proofs.lemmas.List.{append-nil}
use Rattle.usb_base.specs.declared.status.UsbStatus.{UsbStatus}
use Rattle.usb_base.specs.declared.status.UsbStatus.TheVariants.{Success, Cancelled, Inval, IoError, Stall, Timeout, Babble, Other}
use Rattle.usb_base.specs.Status.{errno_of, is_success}
use Rattle.usbip_urb.specs.Spelling.{spelling}
use Rattle.unlink_race.specs.declared.live.Live.{Live}
use Rattle.unlink_race.specs.declared.live.StreamEnd.TheVariants.{Told}
use Rattle.unlink_race.specs.Searches.{ended_by, waits_for}
use Rattle.gate_core.specs.declared.state.kept.Kept.{Kept}
use Rattle.usb_base.specs.Number.{capped}
use Rattle.gate_history.specs.state.Ups.{lower_at}
use Rattle.gate_history.specs.write.Answers.{without_packets}
use Rattle.gate_parts.specs.state.Rows.{row_request, ended_bytes}
use Rattle.gate_core.specs.inner.host.StreamEnd.{is_told, status_bytes}
use Rattle.gate_history.proofs.lemmas.Lists.{every, filter-same, filter-none, filter-all, flat_map-same, flat_map-none}
use Rattle.gate_core.proofs.lemmas.step.Quiet.{capped-same}
use Rattle.gate_history.proofs.lemmas.step.NoCancel.{and-false}
use Rattle.gate_core.proofs.lemmas.write.InTurn.{on-err}
use Rattle.gate_core.proofs.state.kept.Kept.end_stream.Goals as goal

and-true : (b : Bool) → (b && true) ≡ b
and-true true = refl
and-true false = refl

-- success is the end of none
module _ (ep : ℕ) (status : UsbStatus) (h : is_success status ≡ true) where
  untold : (l : Live) → is_told ep status l ≡ false
  untold l = ap (λ (b : Bool). waits_for ep l && not b) h ∙ and-false (waits_for ep l)

  all-stay : (ls : List Live) → filter (λ l. not (is_told ep status l)) ls ≡ ls
  all-stay ls = filter-same (λ l. not (is_told ep status l)) (λ l. true) ls (every (λ l. not (is_told ep status l) ≡ true) (λ l. ap not (untold l)) ls) ∙ filter-all ls

  none-end : (ls : List Live) → filter (is_told ep status) ls ≡ []
  none-end ls = filter-same (is_told ep status) (λ l. false) ls (every (λ l. is_told ep status l ≡ false) untold ls) ∙ filter-none ls

  none-sent : (ls : List Live) → flat_map (status_bytes ep status) ls ≡ []
  none-sent ls =
      flat_map-same (status_bytes ep status) (λ l. []) ls (every (λ l. status_bytes ep status l ≡ []) (λ l. ap (λ (b : Bool). cond b (spelling (without_packets (row_request l) (errno_of status))) []) (untold l)) ls)
      ∙ flat_map-none ls

-- any other is that of all that wait there
module _ (ep : ℕ) (status : UsbStatus) (h : is_success status ≡ false) where
  told : (l : Live) → is_told ep status l ≡ ended_by (Told ep) l
  told l = ap (λ (b : Bool). waits_for ep l && not b) h ∙ and-true (waits_for ep l)

  same-stay : (ls : List Live) → filter (λ l. not (is_told ep status l)) ls ≡ filter (λ l. not (ended_by (Told ep) l)) ls
  same-stay ls = filter-same (λ l. not (is_told ep status l)) (λ l. not (ended_by (Told ep) l)) ls (every (λ l. not (is_told ep status l) ≡ not (ended_by (Told ep) l)) (λ l. ap not (told l)) ls)

  same-end : (ls : List Live) → filter (is_told ep status) ls ≡ filter (ended_by (Told ep)) ls
  same-end ls = filter-same (is_told ep status) (ended_by (Told ep)) ls (every (λ l. is_told ep status l ≡ ended_by (Told ep) l) told ls)

  same-sent : (ls : List Live) → flat_map (status_bytes ep status) ls ≡ flat_map (ended_bytes (Told ep) (errno_of status)) ls
  same-sent ls = flat_map-same (status_bytes ep status) (ended_bytes (Told ep) (errno_of status)) ls (every (λ l. status_bytes ep status l ≡ ended_bytes (Told ep) (errno_of status) l) (λ l. ap (λ (b : Bool). cond b (spelling (without_packets (row_request l) (errno_of status))) []) (told l)) ls)

pub returns-then-is_success-clause-ended : goal.returns-then-is_success-clause-ended
returns-then-is_success-clause-ended c =
    let old = c.args.self.now in
    let yes : is_success c.args.status ≡ true = sym c.is_success.ensures ∙ c.if-is_success.true in
    record {
      is = λ i. record old {
        lives = record { live = sym (all-stay c.args.endpoint c.args.status yes old.lives.live) i; abandoned = old.lives.abandoned };
        streams = cond (sym yes i) old.streams (lower_at c.args.endpoint old.streams);
        answered = (capped-same old.answered c.requires.kept.answered_fits ∙ ap (λ (ls : List Live). capped (old.answered + length ls)) (sym (none-end c.args.endpoint c.args.status yes old.lives.live))) i;
      };
    }

pub returns-then-is_success-clause-sent : goal.returns-then-is_success-clause-sent
returns-then-is_success-clause-sent c =
    let yes : is_success c.args.status ≡ true = sym c.is_success.ensures ∙ c.if-is_success.true in
    sym (append-nil c.args.to_client.now) ∙ ap (λ (bs : List ℕ). c.args.to_client.now ++ bs) (sym (none-sent c.args.endpoint c.args.status yes c.args.self.now.lives.live))

pub returns-clause-ended : goal.returns-clause-ended
returns-clause-ended c =
    let old = c.args.self.now in
    let no : is_success c.args.status ≡ false = sym c.is_success.ensures ∙ c.if-is_success.false in
    let dropped = c.drop_ended.ensures.dropped.is in
    record {
      is = (λ i. record c.drop_ended.new.self { streams = c.lower_at.ensures i })
          ∙ ap (λ (k : Kept). record k { streams = lower_at c.args.endpoint k.streams }) dropped
          ∙ (λ i. record old {
            lives = record { live = sym (same-stay c.args.endpoint c.args.status no old.lives.live) i; abandoned = old.lives.abandoned };
            streams = cond (sym no i) old.streams (lower_at c.args.endpoint old.streams);
            answered = capped (old.answered + length (sym (same-end c.args.endpoint c.args.status no old.lives.live) i));
          });
    }

errno-again : (s : UsbStatus) → to_z w32 (of_z w32 (errno_of s)) ≡ errno_of s
errno-again Success = refl
errno-again Cancelled = refl
errno-again Inval = refl
errno-again IoError = refl
errno-again Stall = refl
errno-again Timeout = refl
errno-again Babble = refl
errno-again (Other byte) = refl

pub returns-clause-sent : goal.returns-clause-sent
returns-clause-sent c =
    let no : is_success c.args.status ≡ false = sym c.is_success.ensures ∙ c.if-is_success.false in
    c.in_ok-write_ends.ensures.ok
    ∙ (λ i. c.args.to_client.now ++ flat_map (ended_bytes (Told c.args.endpoint) ((ap (λ (z : ℤ). to_z w32 (of_z w32 z)) c.errno.ensures ∙ errno-again c.args.status) i)) c.args.self.now.lives.live)
    ∙ ap (λ (bs : List ℕ). c.args.to_client.now ++ bs) (sym (same-sent c.args.endpoint c.args.status no c.args.self.now.lives.live))

pub returns-in_err-write_ends-clause-wants : goal.returns-in_err-write_ends-clause-wants
returns-in_err-write_ends-clause-wants c =
    let no : is_success c.args.status ≡ false = sym c.is_success.ensures ∙ c.if-is_success.false in
    on-err c.from_residual.result _ (subst (λ (ls : List Live). 0 < length ls) (sym (same-end c.args.endpoint c.args.status no c.args.self.now.lives.live)) c.in_err-write_ends.ensures.wants)
