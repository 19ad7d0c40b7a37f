-- The blocks hold what was written to them last.
use Rattle.std.proofs.Common.{◌≡◌, ℕ, ◌+◌, ◌-◌, ◌*◌, ◌/◌, ◌%◌, ◌≤◌, ◌<◌, Bool, true, false, List, [], ◌∷◌, ◌++◌, length, take, drop, replicate, get_or, min, Option, Some, None, refl, sym, ap, ◌∙◌, subst, arith, inl, inr}
use Rattle.std.specs.List.{cons_option}
use Rattle.std.specs.Prelude.{◌==◌, ◌&&◌, ◌||◌, nat_lt, not, IfSome}
use Rattle.std.proofs.lemmas.Bool.{cond_both, and_parts, eqb-true, ltb-true, ltb-false, lt-ltb, le-ltb, cases_lt, false≢true}
use Rattle.std.proofs.lemmas.List.{length-take, length-drop, length-append, length-replicate, get_or_append_left, get_or-append_right, get_or-take, get_or-drop, get_or-replicate, get_or_past}
use Rattle.usb_base.specs.Status.{is_success}
use Rattle.usb_base.specs.Endpoint.{is_in_endpoint}
use Rattle.usb_base.specs.Number.{part}
use Rattle.usb_base.specs.declared.setup.Setup.{Setup}
use Rattle.usb_base.specs.declared.status.UsbStatus.TheVariants.{Success}
use Rattle.usb_base.specs.declared.transfer.Transfer.{Transfer}
use Rattle.chapter9.specs.declared.state.DevState.{DevState}
use Rattle.model_device.specs.Device.{State, control, device_parts, is_running}
use Rattle.model_device.specs.Meaning.{state_in}
use Rattle.model_device.specs.Transfer.{asks_change}
use Rattle.disk_gadget.specs.declared.class_request.ClassRequest.{ClassRequest}
use Rattle.disk_gadget.specs.declared.class_request.ClassRequest.TheVariants.{Reset, MaxLun}
use Rattle.disk_gadget.specs.declared.report.Report.{Report}
use Rattle.disk_gadget.specs.declared.sense.Sense.{Sense}
use Rattle.disk_gadget.specs.declared.stage.Answer.{Answer}
use Rattle.disk_gadget.specs.declared.stage.Answer.TheVariants.{Text, Blocks}
use Rattle.disk_gadget.specs.declared.stage.Stage.{Stage}
use Rattle.disk_gadget.specs.declared.stage.Stage.TheVariants.{Waits, Gathers, Gives, Reports}
use Rattle.disk_gadget.specs.declared.stage.Course.{Course}
use Rattle.disk_gadget.specs.declared.wrapper.Wrapper.{Wrapper}
use Rattle.disk_gadget.specs.Accesses.{Access, ReadOf, WriteOf, blocks_after, count_of, put}
use Rattle.disk_gadget.specs.Descriptors.{described, fresh}
use Rattle.disk_gadget.specs.DiskStep.{DiskState, Step, bulk_turn, class_request, disk_step, first_disk, no_access, on_blocks, outcome_in, setup_done, step, step_by, turned}
use Rattle.disk_gadget.specs.Turns.{Reply, Plain, OfBlocks, Turn, acted, answering, begun, gathered, gathering, gave, given_by, given_of, left_of, less, refused, reported, rest_of, taken_by}
use Rattle.disk_gadget.specs.Within.{PlaceWithin}
use Rattle.disk_gadget.specs.Wrappers.{wrapper_of}
use Rattle.disk_gadget.specs.Written.{GivesWritten, ReadsWhatWasWritten, ReplyIsWritten, course_after, covers, disk_after, last_written, passed, stepped, with_passed}
use Rattle.disk_gadget.proofs.Ranges.{AccessWithin, IsWhole, access_length, act_placed, act_whole, act_within}

-- ---- every step stays within a disk of so many bytes

abbrev StageFine : ℕ → Stage → Type 0
StageFine size Waits = Unit {0}
StageFine size (Gathers w bytes) = Unit {0}
StageFine size (Gives answer r) = PlaceWithin size answer
StageFine size (Reports r) = Unit {0}

abbrev ReplyFine : ℕ → Reply → Type 0
ReplyFine size (Plain outcome) = Unit {0}
ReplyFine size (OfBlocks block given count) = 512 * block + given + count ≤ size

record StepFine (size : ℕ) (s : Step) : Type 0 where
  stage : StageFine size s.state.kept.stage
  reply : ReplyFine size s.reply
  access : AccessWithin size s.access
  whole : IsWhole s.access

record TurnFine (size : ℕ) (t : Turn) : Type 0 where
  stage : StageFine size t.course.stage
  reply : ReplyFine size t.reply
  access : AccessWithin size t.access
  whole : IsWhole t.access

acted_fine : (size : ℕ) (sense : Option Sense) (w : Wrapper) (bytes body : List ℕ) → length bytes ≡ w.length → TurnFine size (acted (size / 512) sense w bytes body)
acted_fine size sense w bytes body h = record { stage = tt; reply = tt; access = act_within size sense w bytes (omega arith); whole = act_whole (size / 512) sense w bytes (λ count e. omega arith) }

answering_fine : (size : ℕ) (sense : Option Sense) (w : Wrapper) (body : List ℕ) → TurnFine size (answering (size / 512) sense w body)
answering_fine size sense w body = record { stage = act_placed size sense w []; reply = tt; access = act_within size sense w [] (omega arith); whole = act_whole (size / 512) sense w [] (λ count e. refl) }

begun_fine : (size : ℕ) (sense : Option Sense) (body : List ℕ) (w : Option Wrapper) → TurnFine size (begun (size / 512) sense body w)
begun_fine size sense body None = record { stage = tt; reply = tt; access = tt; whole = tt }
begun_fine size sense body (Some w) =
    cond_both (w.length == 0) (acted (size / 512) sense w [] body) _ (TurnFine size) (λ h. let none = eqb-true w.length 0 h in acted_fine size sense w [] body (omega arith))
    (λ h. cond_both w.is_in (answering (size / 512) sense w body) (gathering sense w [] body) (TurnFine size) (λ k. answering_fine size sense w body) (λ k. record { stage = tt; reply = tt; access = tt; whole = tt }))

gathered_fine : (size : ℕ) (sense : Option Sense) (w : Wrapper) (bytes body : List ℕ) → TurnFine size (gathered (size / 512) sense w bytes body)
gathered_fine size sense w bytes body =
    cond_both (nat_lt w.length (length bytes + length body)) (refused _) _ (TurnFine size) (λ h. record { stage = tt; reply = tt; access = tt; whole = tt })
    (λ h. cond_both (length bytes + length body == w.length) (acted (size / 512) sense w (bytes ++ body) body) (gathering sense w (bytes ++ body) body) (TurnFine size)
    (λ k. let same = eqb-true (length bytes + length body) w.length k in acted_fine size sense w (bytes ++ body) body (omega (arith, length-append bytes body)))
    (λ k. record { stage = tt; reply = tt; access = tt; whole = tt }))

taken_fine : (size : ℕ) (sense : Option Sense) (body : List ℕ) (stage : Stage) → IfSome (taken_by (size / 512) sense body stage) (TurnFine size)
taken_fine size sense body Waits = begun_fine size sense body (wrapper_of body)
taken_fine size sense body (Gathers w bytes) = gathered_fine size sense w bytes body
taken_fine size sense body (Gives answer r) = tt
taken_fine size sense body (Reports r) = tt

rest_placed : (size n : ℕ) (answer : Answer) → n ≤ left_of answer → PlaceWithin size answer → PlaceWithin size (rest_of n answer)
rest_placed size n (Text rest) le h = tt
rest_placed size n (Blocks block given left) le h = omega arith

given_reply : (size n : ℕ) (answer : Answer) → n ≤ left_of answer → PlaceWithin size answer → ReplyFine size (given_of n answer)
given_reply size n (Text rest) le h = tt
given_reply size n (Blocks block given left) le h = omega arith

gave_fine : (size : ℕ) (sense : Option Sense) (wanted : ℕ) (answer : Answer) (r : Report) → PlaceWithin size answer → TurnFine size (gave sense wanted answer r)
gave_fine size sense wanted answer r h =
    let n = min wanted (left_of answer) in
    record {
      stage = cond_both (nat_lt n wanted || r.residue - n == 0) (Reports (less n r)) (Gives (rest_of n answer) (less n r)) (StageFine size) (λ e. tt) (λ e. rest_placed size n answer (omega arith) h);
      reply = given_reply size n answer (omega arith) h;
      access = tt;
      whole = tt;
    }

reported_fine : (size : ℕ) (sense : Option Sense) (wanted : ℕ) (r : Report) → TurnFine size (reported sense wanted r)
reported_fine size sense wanted r =
    cond_both (nat_lt wanted 13) (refused _) _ (TurnFine size) (λ h. record { stage = tt; reply = tt; access = tt; whole = tt }) (λ h. record { stage = tt; reply = tt; access = tt; whole = tt })

given_fine : (size : ℕ) (sense : Option Sense) (wanted : ℕ) (stage : Stage) → StageFine size stage → IfSome (given_by sense wanted stage) (TurnFine size)
given_fine size sense wanted Waits h = tt
given_fine size sense wanted (Gathers w bytes) h = tt
given_fine size sense wanted (Gives answer r) h = gave_fine size sense wanted answer r h
given_fine size sense wanted (Reports r) h = reported_fine size sense wanted r

turned_fine : (size : ℕ) (device : DevState) (o : Option Turn) → IfSome o (TurnFine size) → IfSome (turned device o) (StepFine size)
turned_fine size device None h = tt
turned_fine size device (Some turn) h = record { stage = h.stage; reply = h.reply; access = h.access; whole = h.whole }

setup_fine : (size : ℕ) (s : State Course) (t : Transfer) (r : Setup) (x : Option ClassRequest) → StageFine size s.kept.stage → StepFine size (no_access (setup_done s t r x))
unfolding described
setup_fine size s t r (Some Reset) h = record { stage = tt; reply = tt; access = tt; whole = tt }
setup_fine size s t r (Some MaxLun) h = record { stage = h; reply = tt; access = tt; whole = tt }
setup_fine size s t r None h = record { stage = cond_both (asks_change t && is_success (control described s t).1.status) fresh s.kept (λ c. StageFine size c.stage) (λ e. tt) (λ e. h); reply = tt; access = tt; whole = tt }

step_fine_by : (size : ℕ) (s : State Course) (t : Transfer) (o : Option Setup) → StageFine size s.kept.stage → IfSome (step_by (size / 512) s t o) (StepFine size)
step_fine_by size s t (Some r) h = setup_fine size s t r (class_request r) h
step_fine_by size s t None h =
    cond_both (is_running (device_parts described) s.device t.ep) (turned s.device (bulk_turn (size / 512) s.kept t)) _ (λ o. IfSome o (StepFine size))
    (λ e. turned_fine size s.device (bulk_turn (size / 512) s.kept t)
    (cond_both (is_in_endpoint t.ep) (given_by s.kept.sense t.wanted s.kept.stage) (taken_by (size / 512) s.kept.sense t.body s.kept.stage) (λ o. IfSome o (TurnFine size))
    (λ i. given_fine size s.kept.sense t.wanted s.kept.stage h) (λ i. taken_fine size s.kept.sense t.body s.kept.stage)))
    (λ e. record { stage = h; reply = tt; access = tt; whole = tt })

counted : (n : ℕ) → 512 * n / 512 ≡ n
counted n = omega arith

step_fine : (n : ℕ) (s : State Course) (t : Transfer) → StageFine (512 * n) s.kept.stage → IfSome (step n s t) (StepFine (512 * n))
step_fine n s t h = subst (λ k. IfSome (step k s t) (StepFine (512 * n))) (counted n) (step_fine_by (512 * n) s t t.setup h)

-- ---- one access

not_below : (a b : ℕ) → not (nat_lt a b) ≡ true → b ≤ a
not_below a b h = elim (cases_lt a b) [
  | inl lt ↦ absurd (false≢true (sym (ap not (lt-ltb a b lt)) ∙ h))
  | inr le ↦ le
]

right_false : (a b : Bool) → a ≡ false → (not a && b) ≡ false → b ≡ false
right_false true b e h = absurd (false≢true (sym e))
right_false false b e h = h

abbrev Image : List ℕ → List Access → Type 0
Image blocks accesses = (block place : ℕ) → place < 512 → get_or blocks (512 * block + place) 0 ≡ get_or (last_written accesses block) place 0

put_before : (at : ℕ) (bytes blocks : List ℕ) (i : ℕ) → at + length bytes ≤ length blocks → i < at → get_or (put at bytes blocks) i 0 ≡ get_or blocks i 0
put_before at bytes blocks i h lt =
    let size : i < length (take at blocks) = omega (arith, length-take at blocks) in
    get_or_append_left (take at blocks) (bytes ++ drop (at + length bytes) blocks) 0 i size ∙ get_or-take at blocks i 0 lt

put_inside : (at : ℕ) (bytes blocks : List ℕ) (i : ℕ) → at + length bytes ≤ length blocks → at ≤ i → i < at + length bytes → get_or (put at bytes blocks) i 0 ≡ get_or bytes (i - at) 0
put_inside at bytes blocks i h le lt =
    let size : length (take at blocks) ≡ at = omega (arith, length-take at blocks) in
    get_or-append_right (take at blocks) (bytes ++ drop (at + length bytes) blocks) at i 0 size le ∙ get_or_append_left bytes (drop (at + length bytes) blocks) 0 (i - at) (omega arith)

put_behind : (at : ℕ) (bytes blocks : List ℕ) (i : ℕ) → at + length bytes ≤ length blocks → at + length bytes ≤ i → get_or (put at bytes blocks) i 0 ≡ get_or blocks i 0
put_behind at bytes blocks i h le =
    let size : length (take at blocks) ≡ at = omega (arith, length-take at blocks) in
    let rest : (at + length bytes) + ((i - at) - length bytes) ≡ i = omega arith in
    get_or-append_right (take at blocks) (bytes ++ drop (at + length bytes) blocks) at i 0 size (omega arith)
    ∙ get_or-append_right bytes (drop (at + length bytes) blocks) (length bytes) (i - at) 0 refl (omega arith)
    ∙ get_or-drop (at + length bytes) blocks ((i - at) - length bytes) 0
    ∙ ap (λ j. get_or blocks j 0) rest

covered : (blocks : List ℕ) (first : ℕ) (bytes : List ℕ) (block place : ℕ) → 512 * first + length bytes ≤ length blocks → length bytes % 512 ≡ 0 → place < 512 → covers first bytes block ≡ true → get_or (put (512 * first) bytes blocks) (512 * block + place) 0 ≡ get_or (part (512 * (block - first)) 512 bytes) place 0
covered blocks first bytes block place h whole lt c =
    let both = and_parts (not (nat_lt block first)) (nat_lt (512 * block) (512 * first + length bytes)) c in
    let from : first ≤ block = not_below block first both.0 in
    let to : 512 * block < 512 * first + length bytes = ltb-true (512 * block) (512 * first + length bytes) both.1 in
    let at : 512 * block + place - 512 * first ≡ 512 * (block - first) + place = omega arith in
    put_inside (512 * first) bytes blocks (512 * block + place) h (omega arith) (omega arith)
    ∙ ap (λ j. get_or bytes j 0) at
    ∙ sym (get_or-drop (512 * (block - first)) bytes place 0)
    ∙ sym (get_or-take 512 (drop (512 * (block - first)) bytes) place 0 lt)

uncovered : (blocks : List ℕ) (first : ℕ) (bytes : List ℕ) (block place : ℕ) → 512 * first + length bytes ≤ length blocks → place < 512 → covers first bytes block ≡ false → get_or (put (512 * first) bytes blocks) (512 * block + place) 0 ≡ get_or blocks (512 * block + place) 0
uncovered blocks first bytes block place h lt c = elim (cases_lt block first) [
  | inl before ↦ put_before (512 * first) bytes blocks (512 * block + place) h (omega arith)
  | inr from ↦ let behind = ltb-false (512 * block) (512 * first + length bytes) (right_false (nat_lt block first) (nat_lt (512 * block) (512 * first + length bytes)) (le-ltb block first from) c) in
      put_behind (512 * first) bytes blocks (512 * block + place) h (omega arith)
]

image_access : (blocks : List ℕ) (accesses : List Access) (a : Option Access) → AccessWithin (length blocks) a → IsWhole a → Image blocks accesses → Image (blocks_after blocks a) (cons_option a accesses)
image_access blocks accesses None h whole i = i
image_access blocks accesses (Some (ReadOf first count)) h whole i = i
image_access blocks accesses (Some (WriteOf first bytes)) h whole i = λ block place lt.
    cond_both (covers first bytes block) (part (512 * (block - first)) 512 bytes) (last_written accesses block)
    (λ x. get_or (put (512 * first) bytes blocks) (512 * block + place) 0 ≡ get_or x place 0)
    (λ c. covered blocks first bytes block place h whole lt c)
    (λ c. uncovered blocks first bytes block place h lt c ∙ i block place lt)

-- ---- all transfers

record Goes (n : ℕ) (d : DiskState) (s : State Course) (accesses : List Access) : Type 0 where
  state : d.state ≡ s
  size : length d.blocks ≡ 512 * n
  stage : StageFine (512 * n) s.kept.stage
  image : Image d.blocks accesses

goes_on : (n : ℕ) (d : DiskState) (s : State Course) (accesses : List Access) (o : Option Step) → Goes n d s accesses → IfSome o (StepFine (512 * n)) → Goes n (state_in d (on_blocks d.blocks o)) (stepped s o) (with_passed o accesses)
goes_on n d s accesses None g f = g
goes_on n d s accesses (Some st) g f =
    let within : AccessWithin (length d.blocks) st.access = subst (λ k. AccessWithin k st.access) (sym g.size) f.access in
    record {
      state = refl;
      size = access_length d.blocks st.access within ∙ g.size;
      stage = f.stage;
      image = image_access d.blocks accesses st.access within f.whole g.image;
    }

all_zero : (m i : ℕ) → get_or {A = ℕ} (replicate m 0) i 0 ≡ 0
all_zero m i = elim (cases_lt i m) [
  | inl lt ↦ get_or-replicate m i 0 0 lt
  | inr le ↦ get_or_past (replicate m 0) i 0 (omega (arith, length-replicate {A = ℕ} m 0))
]

first_image : (m block place : ℕ) → get_or {A = ℕ} (replicate m 0) (512 * block + place) 0 ≡ get_or {A = ℕ} (replicate 512 0) place 0
first_image m block place = all_zero m (512 * block + place) ∙ sym (all_zero 512 place)

-- the step of the whole disk is that without its bytes
whole_step : (n : ℕ) (d : DiskState) (s : State Course) (accesses : List Access) (t : Transfer) → Goes n d s accesses → disk_step d t ≡ on_blocks d.blocks (step n s t)
whole_step n d s accesses t g =
    let count : count_of d.blocks ≡ n = ap (λ k. k / 512) g.size ∙ counted n in
    ap (λ k. on_blocks d.blocks (step k d.state t)) count ∙ ap (λ c. on_blocks d.blocks (step n c t)) g.state

goes : (n : ℕ) (past : List Transfer) → Goes n (disk_after n past) (course_after n past) (passed n past)
unfolding first_disk
goes n [] = record { state = refl; size = length-replicate (512 * n) 0; stage = tt; image = λ block place lt. first_image (512 * n) block place }
goes n (t ∷ past) =
    let g = goes n past in
    subst (λ o. Goes n (state_in (disk_after n past) o) (stepped (course_after n past) (step n (course_after n past) t)) (with_passed (step n (course_after n past) t) (passed n past)))
    (sym (whole_step n (disk_after n past) (course_after n past) (passed n past) t g))
    (goes_on n (disk_after n past) (course_after n past) (passed n past) (step n (course_after n past) t) g (step_fine n (course_after n past) t g.stage))

-- ---- the law

given_bytes : (blocks : List ℕ) (accesses : List Access) (first given count : ℕ) → Image blocks accesses → 512 * first + given + count ≤ length blocks → GivesWritten accesses first given (part (512 * first + given) count blocks)
given_bytes blocks accesses first given count im h = λ block place i lt within at.
    let size : length (take count (drop (512 * first + given) blocks)) ≡ count = omega (arith, length-take count (drop (512 * first + given) blocks), length-drop (512 * first + given) blocks) in
    get_or-take count (drop (512 * first + given) blocks) i 0 (omega arith)
    ∙ get_or-drop (512 * first + given) blocks i 0
    ∙ ap (λ j. get_or blocks j 0) at
    ∙ im block place lt

reply_written : (n : ℕ) (past : List Transfer) (t : Transfer) (reply : Reply) (st : Step) → Goes n (disk_after n past) (course_after n past) (passed n past) → disk_step (disk_after n past) t ≡ on_blocks (disk_after n past).blocks (Some st) → st.reply ≡ reply → ReplyFine (512 * n) reply → ReplyIsWritten n past t reply
reply_written n past t (Plain outcome) st g e q f = tt
reply_written n past t (OfBlocks first given count) st g e q f =
    let blocks = (disk_after n past).blocks in
    let room : 512 * first + given + count ≤ length blocks = subst (λ k. 512 * first + given + count ≤ k) (sym g.size) f in
    let size : length (take count (drop (512 * first + given) blocks)) ≡ count = omega (arith, length-take count (drop (512 * first + given) blocks), length-drop (512 * first + given) blocks) in
    subst (λ o. IfSome o (λ done. (done.1.status ≡ Success) × (done.1.done ≡ count) × (length done.1.body ≡ count) × GivesWritten (passed n past) first given done.1.body)) (sym e)
    (subst (λ r. ((outcome_in blocks r).status ≡ Success) × ((outcome_in blocks r).done ≡ count) × (length (outcome_in blocks r).body ≡ count) × GivesWritten (passed n past) first given (outcome_in blocks r).body) (sym q)
    (refl, size, size, given_bytes blocks (passed n past) first given count g.image room))

written_by : (n : ℕ) (past : List Transfer) (t : Transfer) (o : Option Step) → Goes n (disk_after n past) (course_after n past) (passed n past) → disk_step (disk_after n past) t ≡ on_blocks (disk_after n past).blocks o → IfSome o (StepFine (512 * n)) → IfSome o (λ done. ReplyIsWritten n past t done.reply)
written_by n past t None g e f = tt
written_by n past t (Some st) g e f = reply_written n past t st.reply st g e refl f.reply

pub reads_what_was_written : ReadsWhatWasWritten
reads_what_was_written n past t =
    let g = goes n past in
    written_by n past t (step n (course_after n past) t) g (whole_step n (disk_after n past) (course_after n past) (passed n past) t g) (step_fine n (course_after n past) t g.stage)
