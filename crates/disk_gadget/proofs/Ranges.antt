-- What is left of a command stays within its bounds.
use Rattle.std.proofs.Common.{◌≡◌, ℕ, ◌+◌, ◌-◌, ◌*◌, ◌/◌, ◌%◌, ◌≤◌, ◌<◌, ◌^◌, true, false, List, [], length, Option, Some, None, refl, sym, ap, ◌∙◌, subst, arith}
use Rattle.std.specs.Prelude.{◌==◌}
use Rattle.std.proofs.lemmas.Bool.{cond_both, eqb-true, ltb-false}
use Rattle.std.proofs.lemmas.List.{length-take, length-drop, length-append}
use Rattle.disk_gadget.specs.declared.command.Command.{Command}
use Rattle.disk_gadget.specs.declared.command.Command.TheVariants.{TestUnitReady, RequestSense, Inquiry, ReadCapacity, Read, Write, Unknown}
use Rattle.disk_gadget.specs.declared.command.Extent.{Extent}
use Rattle.disk_gadget.specs.declared.sense.Sense.{Sense}
use Rattle.disk_gadget.specs.declared.stage.Answer.{Answer}
use Rattle.disk_gadget.specs.declared.stage.Answer.TheVariants.{Text, Blocks}
use Rattle.disk_gadget.specs.declared.wrapper.Wrapper.{Wrapper}
use Rattle.disk_gadget.specs.Accesses.{Access, ReadOf, WriteOf, blocks_after, count_of, put}
use Rattle.disk_gadget.specs.Acts.{Act, act_of, command_act, is_crossed, is_past_end}
use Rattle.disk_gadget.specs.Turns.{cut_answer, left_of}
use Rattle.disk_gadget.specs.Within.{AnswerWithin, GivenFits, PlaceWithin}

-- ---- blocks that aren't past the end

pub bytes_within : (size block count : ℕ) → block + count ≤ size / 512 → 512 * block + 512 * count ≤ size
bytes_within size block count h = omega arith

pub extent_within : (size : ℕ) (e : Extent) → is_past_end (size / 512) e ≡ false → 512 * e.block + 512 * e.count ≤ size
extent_within size e h = bytes_within size e.block e.count (ltb-false (size / 512) (e.block + e.count) h)

pub put_length : (at : ℕ) (bytes blocks : List ℕ) → at + length bytes ≤ length blocks → length (put at bytes blocks) ≡ length blocks
put_length at bytes blocks h = simp (length-append, length-take, length-drop) (omega arith)

-- ---- an access that passes stands within the disk

abbrev pub AccessWithin : ℕ → Option Access → Type 0
AccessWithin size None = Unit {0}
AccessWithin size (Some (ReadOf block count)) = Unit {0}
AccessWithin size (Some (WriteOf block bytes)) = 512 * block + length bytes ≤ size

write_within : (size : ℕ) (sense : Option Sense) (len : ℕ) (bytes : List ℕ) (e : Extent) → length bytes ≤ len → AccessWithin size (command_act (size / 512) sense len bytes (Write e)).access
write_within size sense len bytes e h =
    cond_both (is_past_end (size / 512) e) _ _ (λ (act : Act). AccessWithin size act.access) (λ p. tt)
    (λ p. cond_both (len == 512 * e.count) _ _ (λ (act : Act). AccessWithin size act.access)
    (λ q. let room = extent_within size e p in let same = eqb-true len (512 * e.count) q in omega arith) (λ q. tt))

command_within : (size : ℕ) (sense : Option Sense) (len : ℕ) (bytes : List ℕ) (c : Command) → length bytes ≤ len → AccessWithin size (command_act (size / 512) sense len bytes c).access
command_within size sense len bytes TestUnitReady h = tt
command_within size sense len bytes (RequestSense most) h = tt
command_within size sense len bytes (Inquiry true most) h = tt
command_within size sense len bytes (Inquiry false most) h = tt
command_within size sense len bytes ReadCapacity h = tt
command_within size sense len bytes (Read e) h = cond_both (is_past_end (size / 512) e) _ _ (λ (act : Act). AccessWithin size act.access) (λ p. tt) (λ p. tt)
command_within size sense len bytes (Write e) h = write_within size sense len bytes e h
command_within size sense len bytes Unknown h = tt

pub act_within : (size : ℕ) (sense : Option Sense) (w : Wrapper) (bytes : List ℕ) → length bytes ≤ w.length → AccessWithin size (act_of (size / 512) sense w bytes).access
act_within size sense w bytes h = cond_both (is_crossed w) _ (command_act (size / 512) sense w.length bytes w.command) (λ (act : Act). AccessWithin size act.access) (λ c. tt) (λ c. command_within size sense w.length bytes w.command h)

-- and is one of whole blocks
abbrev pub IsWhole : Option Access → Type 0
IsWhole None = Unit {0}
IsWhole (Some (ReadOf block count)) = Unit {0}
IsWhole (Some (WriteOf block bytes)) = length bytes % 512 ≡ 0

command_whole : (blocks : ℕ) (sense : Option Sense) (len : ℕ) (bytes : List ℕ) (c : Command) → ((count : ℕ) → len ≡ 512 * count → length bytes % 512 ≡ 0) → IsWhole (command_act blocks sense len bytes c).access
command_whole blocks sense len bytes TestUnitReady h = tt
command_whole blocks sense len bytes (RequestSense most) h = tt
command_whole blocks sense len bytes (Inquiry true most) h = tt
command_whole blocks sense len bytes (Inquiry false most) h = tt
command_whole blocks sense len bytes ReadCapacity h = tt
command_whole blocks sense len bytes (Read e) h = cond_both (is_past_end blocks e) _ _ (λ (act : Act). IsWhole act.access) (λ p. tt) (λ p. tt)
command_whole blocks sense len bytes (Write e) h =
    cond_both (is_past_end blocks e) _ _ (λ (act : Act). IsWhole act.access) (λ p. tt)
    (λ p. cond_both (len == 512 * e.count) _ _ (λ (act : Act). IsWhole act.access) (λ q. h e.count (eqb-true len (512 * e.count) q)) (λ q. tt))
command_whole blocks sense len bytes Unknown h = tt

pub act_whole : (blocks : ℕ) (sense : Option Sense) (w : Wrapper) (bytes : List ℕ) → ((count : ℕ) → w.length ≡ 512 * count → length bytes % 512 ≡ 0) → IsWhole (act_of blocks sense w bytes).access
act_whole blocks sense w bytes h = cond_both (is_crossed w) _ (command_act blocks sense w.length bytes w.command) (λ (act : Act). IsWhole act.access) (λ c. tt) (λ c. command_whole blocks sense w.length bytes w.command h)

pub access_length : (blocks : List ℕ) (a : Option Access) → AccessWithin (length blocks) a → length (blocks_after blocks a) ≡ length blocks
access_length blocks None h = refl
access_length blocks (Some (ReadOf block count)) h = refl
access_length blocks (Some (WriteOf block bytes)) h = put_length (512 * block) bytes blocks h

-- ---- so does the answer of a read

abbrev AnswerPlaced : ℕ → ℕ → Act → Type 0
AnswerPlaced size len act = PlaceWithin size (cut_answer len act.answer)

command_placed : (size : ℕ) (sense : Option Sense) (len : ℕ) (bytes : List ℕ) (c : Command) → AnswerPlaced size len (command_act (size / 512) sense len bytes c)
command_placed size sense len bytes TestUnitReady = tt
command_placed size sense len bytes (RequestSense most) = tt
command_placed size sense len bytes (Inquiry true most) = tt
command_placed size sense len bytes (Inquiry false most) = tt
command_placed size sense len bytes ReadCapacity = tt
command_placed size sense len bytes (Read e) =
    cond_both (is_past_end (size / 512) e) _ _ (AnswerPlaced size len) (λ p. tt)
    (λ p. let room = extent_within size e p in omega arith)
command_placed size sense len bytes (Write e) =
    cond_both (is_past_end (size / 512) e) _ _ (AnswerPlaced size len) (λ p. tt)
    (λ p. cond_both (len == 512 * e.count) _ _ (AnswerPlaced size len) (λ q. tt) (λ q. tt))
command_placed size sense len bytes Unknown = tt

pub act_placed : (size : ℕ) (sense : Option Sense) (w : Wrapper) (bytes : List ℕ) → AnswerPlaced size w.length (act_of (size / 512) sense w bytes)
act_placed size sense w bytes = cond_both (is_crossed w) _ (command_act (size / 512) sense w.length bytes w.command) (AnswerPlaced size w.length) (λ c. tt) (λ c. command_placed size sense w.length bytes w.command)

pub cut_left : (len : ℕ) (answer : Answer) → left_of (cut_answer len answer) ≤ len
cut_left len (Text rest) = omega (arith, length-take len rest)
cut_left len (Blocks block given left) = omega arith

-- none of it is given yet
abbrev NoneGiven : Answer → Type 0
NoneGiven (Text rest) = Unit {0}
NoneGiven (Blocks block given left) = given ≡ 0

command_new : (blocks : ℕ) (sense : Option Sense) (len : ℕ) (bytes : List ℕ) (c : Command) → NoneGiven (command_act blocks sense len bytes c).answer
command_new blocks sense len bytes TestUnitReady = tt
command_new blocks sense len bytes (RequestSense most) = tt
command_new blocks sense len bytes (Inquiry true most) = tt
command_new blocks sense len bytes (Inquiry false most) = tt
command_new blocks sense len bytes ReadCapacity = tt
command_new blocks sense len bytes (Read e) = cond_both (is_past_end blocks e) _ _ (λ (act : Act). NoneGiven act.answer) (λ p. tt) (λ p. refl)
command_new blocks sense len bytes (Write e) =
    cond_both (is_past_end blocks e) _ _ (λ (act : Act). NoneGiven act.answer) (λ p. tt)
    (λ p. cond_both (len == 512 * e.count) _ _ (λ (act : Act). NoneGiven act.answer) (λ q. tt) (λ q. tt))
command_new blocks sense len bytes Unknown = tt

act_new : (blocks : ℕ) (sense : Option Sense) (w : Wrapper) (bytes : List ℕ) → NoneGiven (act_of blocks sense w bytes).answer
act_new blocks sense w bytes = cond_both (is_crossed w) _ (command_act blocks sense w.length bytes w.command) (λ (act : Act). NoneGiven act.answer) (λ c. tt) (λ c. command_new blocks sense w.length bytes w.command)

cut_fits : (len : ℕ) (answer : Answer) → NoneGiven answer → len < 2 ^ 32 → GivenFits (cut_answer len answer)
cut_fits len (Text rest) n h = tt
cut_fits len (Blocks block given left) n h = omega arith

pub answer_within : (size : ℕ) (sense : Option Sense) (w : Wrapper) (bytes : List ℕ) → w.length < 2 ^ 32 → AnswerWithin size w.length (cut_answer w.length (act_of (size / 512) sense w bytes).answer)
answer_within size sense w bytes h = record { moved = cut_left w.length (act_of (size / 512) sense w bytes).answer; fits = cut_fits w.length (act_of (size / 512) sense w bytes).answer (act_new (size / 512) sense w bytes) h; place = act_placed size sense w bytes }

-- the answer of a command that begins
pub begun_answer : (blocks after : List ℕ) (sense : Option Sense) (w : Wrapper) (answer : Answer) → w.length < 2 ^ 32 → after ≡ blocks_after blocks (act_of (count_of blocks) sense w []).access → answer ≡ (act_of (count_of blocks) sense w []).answer → AnswerWithin (length after) w.length (cut_answer w.length answer)
begun_answer blocks after sense w answer h e a =
    let size : length after ≡ length blocks = ap length e ∙ access_length blocks (act_of (count_of blocks) sense w []).access (act_within (length blocks) sense w [] (omega arith)) in
    subst (λ k. AnswerWithin k w.length (cut_answer w.length answer)) (sym size)
    (subst (λ x. AnswerWithin (length blocks) w.length (cut_answer w.length x)) (sym a) (answer_within (length blocks) sense w [] h))
