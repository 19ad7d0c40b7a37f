-- A piece of either side, item by item: the translator takes each, until the side is over.
use Rattle.std.proofs.Common.{◌≡◌, ℕ, zero, suc, Bool, true, false, inl, inr, List, [], ◌∷◌, ◌++◌, length, Option, Some, None, Result, Ok, Err, refl, sym, ap, subst, ◌∙◌, append_assoc}
use Rattle.std.specs.Prelude.{◌⊎◌, drop}
use Rattle.std.proofs.Math.Logic.{∥∥₁_map}
use Rattle.std.proofs.lemmas.Bool.{true≢false}
use Rattle.std.proofs.lemmas.List.{append-nil}
use Rattle.usb_base.specs.Number.{AreBytes}
use Rattle.usb_base.specs.declared.memory.Memory.{Memory}
use Rattle.usb_base.specs.declared.reason.Reason.{Reason}
use Rattle.usb_base.proofs.Numbers.{AreBytes-append}
use Rattle.packet_stream.specs.declared.read.ReadError.{ReadError}
use Rattle.packet_stream.specs.declared.read.ReadError.TheVariants.{Refused, Memory as OutOfMemory}
use Rattle.packet_stream.specs.Split.{Reader, split}
use Rattle.packet_stream.specs.Streams.{StreamView, passed, after_piece, Follows, Nexts, Puts, Changes}
use Rattle.packet_stream.specs.Items.{added, onto}
use Rattle.packet_stream.specs.Takers.{Taking as TakenBy, TakenStream, ended_if, TakesAnswer, Finishes, Reaches, TakesPiece as TakesBytes}
use Rattle.packet_stream.proofs.Pieces.{packets, wrongs, items, onto-append}
use Rattle.packet_stream.proofs.Takers.{reaches-keeps, piece-keeps}
use Rattle.gate_history.specs.declared.item.Item.{Item}
use Rattle.gate_parts.specs.declared.write.outputs.Outputs.{Outputs}
use Rattle.gate_core.specs.declared.state.kept.Kept.{Kept}
use Rattle.gate_history.specs.state.State.{state_of}
use Rattle.gate_history.specs.step.Past.{is_left_out, past}
use Rattle.gate_history.specs.step.Wants.{Wants}
use Rattle.gate_core.specs.step.Stands.{Translates, HasAll, IsLeftBy}
use Rattle.gate_core.specs.inner.state.Holds.{DoesNothing}
use Rattle.gate_history.specs.step.Fits.{IsItem, ItemFits}
use Rattle.gate_core.specs.declared.step.taker.ItemTaker.{ItemTaker}
use Rattle.gate_core.specs.inner.step.Steps.{SendsItems}
use Rattle.gate_core.specs.inner.step.Takers.{Borrows, TakesItem, TakerTakes}
use Rattle.gate_history.proofs.lemmas.Lists.{Each, Each-append}
use Rattle.gate_history.proofs.lemmas.state.Sound.{state-sound}
use Rattle.gate_core.proofs.lemmas.step.Take.{Taken, over-put, taken-put, taken-packet, taken-wrong, taken-ended, taken-all, cut-passed, IsMore, IsNextBy, taken-stuck}
use Rattle.gate_core.proofs.lemmas.step.Translator.{sends-none, translates-past, sends-past, past-skipped, translates-item, sends-item}
use Rattle.gate_core.proofs.lemmas.step.Halves.{Half, IsAt, GoesOn, FitsNext, Finished, Halted, IsUnput, TakesPiece}
use Rattle.gate_core.proofs.lemmas.step.Sides.{Side, side-of, TakenSide}

-- ---- lists of items

pub came-onto : {S P : Type 0} (first : ℕ) (d : Side S P first) (more : List (ℕ × P)) (xs : List Item) → d.half.came (onto (packets d.half.stream more) xs) ≡ d.half.came xs ++ more
came-onto first d [] xs = sym (append-nil (d.half.came xs))
came-onto {P = P} first d (i ∷ more) xs =
    came-onto first d more (d.half.stream.packet i.0 i.1 ∷ xs)
    ∙ ap (λ (l : List (ℕ × P)). l ++ more) (d.laws.came_packet xs i.0 i.1)
    ∙ append_assoc (d.half.came xs) (i ∷ []) more

-- ---- what is left out of a side that is over

record Skips {S P : Type 0} (first : ℕ) (d : Side S P first) (x : Item) : Type 0 where
  pub out : (xs : List Item) → is_left_out (state_of first (past first xs)) x ≡ d.half.over xs
  pub others : (xs : List Item) → d.half.others (x ∷ xs) ≡ d.half.others xs

each-packet : {S P : Type 0} (first : ℕ) (d : Side S P first) (found : List (ℕ × P)) → Each (Skips first d) (packets d.half.stream found)
each-packet first d [] = tt
each-packet first d (i ∷ found) = (record { out = λ xs. d.laws.out_packet xs i.0 i.1; others = λ xs. d.laws.others_packet xs i.0 i.1 }, each-packet first d found)

each-wrong : {S P : Type 0} (first : ℕ) (d : Side S P first) (o : Option (ℕ × Reason)) → Each (Skips first d) (wrongs d.half.stream o)
each-wrong first d None = tt
each-wrong first d (Some w) = (record { out = λ xs. d.laws.out_wrong xs w.0 w.1; others = λ xs. d.laws.others_wrong xs w.0 w.1 }, tt)

each-item : {S P : Type 0} (first : ℕ) (d : Side S P first) (bytes : List ℕ) → Each (Skips first d) (items d.half.stream bytes)
each-item first d bytes =
    let x = split d.half.stream.reader d.half.stream.start bytes in
    Each-append (Skips first d) (packets d.half.stream x.packets) (wrongs d.half.stream x.wrong) (each-packet first d x.packets) (each-wrong first d x.wrong)

each-drop : {X : Type 0} (P : X → Type 0) (n : ℕ) (xs : List X) → Each P xs → Each P (drop n xs)
each-drop P zero xs e = e
each-drop P (suc n) [] e = tt
each-drop P (suc n) (x ∷ xs) e = each-drop P n xs e.1

each-right : {X : Type 0} (P : X → Type 0) (xs ys : List X) → Each P (xs ++ ys) → Each P ys
each-right P [] ys e = e
each-right P (x ∷ xs) ys e = each-right P xs ys e.1

each-later : {S P : Type 0} (first : ℕ) (d : Side S P first) (bytes piece : List ℕ) (taken later : List Item) → added (items d.half.stream) bytes piece ≡ taken ++ later → Each (Skips first d) later
each-later first d bytes piece taken later parts =
    each-right (Skips first d) taken later (subst (Each (Skips first d)) parts
    (each-drop (Skips first d) (length (items d.half.stream bytes)) (items d.half.stream (bytes ++ piece)) (each-item first d (bytes ++ piece))))

record Skipped {S P : Type 0} (first : ℕ) (d : Side S P first) (xs ys : List Item) : Type 0 where
  pub past-is : past first ys ≡ past first xs
  pub others-are : d.half.others ys ≡ d.half.others xs

skip-all : {S P : Type 0} (first : ℕ) (d : Side S P first) (later xs : List Item) → d.half.over xs ≡ true → Each (Skips first d) later → Skipped first d xs (onto later xs)
skip-all first d [] xs over e = record { past-is = refl; others-are = refl }
skip-all first d (x ∷ later) xs over e =
    let same : past first (x ∷ xs) ≡ past first xs = past-skipped first xs x (e.0.out xs ∙ over) in
    let rest = skip-all first d later (x ∷ xs) (d.laws.over_past (x ∷ xs) xs same ∙ over) e.1 in
    record { past-is = rest.past-is ∙ same; others-are = rest.others-are ∙ e.0.others xs }

-- ---- within the piece

pub record Taking {S P : Type 0} (first : ℕ) (h : Half S P) (kept : StreamView S) (t : Kept) (bytes piece : List ℕ) (before : List Item) (out_old out_new : Outputs) : Type 0 where
  pub taken : List Item
  pub stream : Taken h.stream kept bytes piece (h.came before) taken
  pub over_is : kept.over ≡ h.over (onto taken before)
  pub translates : Translates first t (onto taken before)
  pub sends : SendsItems first out_old out_new before (onto taken before)
  pub others_are : h.others (onto taken before) ≡ h.others before
  pub other_over : h.other_over (onto taken before) ≡ h.other_over before

pub taking-first : {S P : Type 0} (first : ℕ) (d : Side S P first) (old new : StreamView S) (t : Kept) (bytes piece : List ℕ) (before : List Item) (out : Outputs) → AreBytes piece →
    HasAll d.half.stream.reader d.half.stream.start old bytes (d.half.came before) (d.half.over before) → Translates first t before → new ≡ after_piece old piece → Puts d.half.stream.reader piece old new →
    Taking first d.half new t bytes piece before out out
taking-first first d old new t bytes piece before out are all translates is puts = record {
  taken = [];
  stream = taken-put d.half.stream d.steady old new bytes piece (d.half.came before) (d.half.over before) are all is puts;
  over_is = over-put old new piece is ∙ all.over_is;
  translates = translates;
  sends = sends-none first out before;
  others_are = refl;
  other_over = refl;
}

-- the stream goes on behind what was taken
pub goes-on : {S P : Type 0} (first : ℕ) (d : Side S P first) (kept : StreamView S) (t : Kept) (bytes piece : List ℕ) (before : List Item) (out_old out_new : Outputs) →
    Taking first d.half kept t bytes piece before out_old out_new → kept.over ≡ false → GoesOn first d.half kept t
goes-on {P = P} first d kept t bytes piece before out_old out_new k runs =
    let g = k.stream.going runs in
    let came : d.half.came (onto k.taken before) ≡ d.half.came before ++ g.more = ap (λ (l : List Item). d.half.came (onto l before)) g.are ∙ came-onto first d g.more before in
    record {
      items = onto k.taken before;
      bytes = bytes ++ piece;
      follows = subst (λ (l : List (ℕ × P)). Follows d.half.stream.reader d.half.stream.start kept (bytes ++ piece) l) (sym came) g.follows;
      runs = sym k.over_is ∙ runs;
      translates = k.translates;
    }

ended-over : {S : Type 0} (kept : StreamView S) (flag over : Bool) → flag ≡ over → (over ≡ false → kept.over ≡ false) → (ended_if flag kept).over ≡ over
ended-over kept true over e going = e
ended-over kept false over e going = going (sym e) ∙ e

taking-one : {S P : Type 0} (first : ℕ) (d : Side S P first) (old new : StreamView S) (t u : Kept) (bytes piece : List ℕ) (before : List Item) (out_old out out_new : Outputs) (item : Item) (x : Item) →
    (k : Taking first d.half old t bytes piece before out_old out) → old.over ≡ false → Taken d.half.stream new bytes piece (d.half.came before) (k.taken ++ x ∷ []) → IsItem item x →
    ((xs : List Item) → is_left_out (state_of first (past first xs)) x ≡ d.half.over xs) → ((xs : List Item) → d.half.others (x ∷ xs) ≡ d.half.others xs) → ((xs : List Item) → d.half.other_over (x ∷ xs) ≡ d.half.other_over xs) →
    ((xs : List Item) → d.half.over (x ∷ xs) ≡ false → new.over ≡ false) →
    TakesItem t u item out out_new → Taking first d.half (ended_if (d.flag u) new) u bytes piece before out_old out_new
taking-one first d old new t u bytes piece before out_old out out_new item x k runs stream is left others other going takes =
    let xs = onto k.taken before in
    let st = state_of first (past first xs) in
    let taken : is_left_out st x ≡ false = left xs ∙ sym k.over_is ∙ runs in
    let does = takes st x is k.translates.state (state-sound first xs) taken in
    let translates = translates-item first t u xs x out out_new k.translates taken does in
    let behind : onto (k.taken ++ x ∷ []) before ≡ x ∷ xs = onto-append k.taken (x ∷ []) before in
    record {
      taken = k.taken ++ x ∷ [];
      stream = taken-ended d.half.stream new bytes piece (d.half.came before) (k.taken ++ x ∷ []) stream (d.flag u);
      over_is = ended-over new (d.flag u) (d.half.over (x ∷ xs)) (d.laws.over_is u (x ∷ xs) translates) (going xs) ∙ ap d.half.over (sym behind);
      translates = subst (Translates first u) (sym behind) translates;
      sends = subst (SendsItems first out_old out_new before) (sym behind)
          (sends-item first t u before xs x out_old out out_new k.sends taken does);
      others_are = ap d.half.others behind ∙ others xs ∙ k.others_are;
      other_over = ap d.half.other_over behind ∙ other xs ∙ k.other_over;
    }

-- how a side's stream is taken
abbrev pub taking_by : {S P : Type 0} → Reader S P Reason → (P → Bool) → (Kept → Bool) → (ℕ → P → Item) → (ℕ → Reason → Item) → TakenBy S P ItemTaker
taking_by r takes flag packet wrong = record { reader = r; takes_memory = takes; Takes = TakerTakes packet wrong; is_over = λ t. flag t.translator.now }

abbrev pub taking_of : {S P : Type 0} {first : ℕ} → Side S P first → TakenBy S P ItemTaker
taking_of d = taking_by d.half.stream.reader d.takes d.flag d.packet d.wrong

taking-item : {S P : Type 0} (first : ℕ) (d : Side S P first) (old new : StreamView S) (a b : ItemTaker) (bytes piece : List ℕ) (before : List Item) (out_old : Outputs) (answer : Result (Option (ℕ × P)) ReadError) →
    Changes answer old new → Nexts d.half.stream.reader d.takes answer old new → TakesAnswer (taking_of d) answer (Ok tt) a b → Taking first d.half old a.translator.now bytes piece before out_old a.out.now →
    Taking first d.half (ended_if (d.flag b.translator.now) new) b.translator.now bytes piece before out_old b.out.now
taking-item first d old new a b bytes piece before out_old (Ok None) changes nexts takes k = absurd takes
taking-item first d old new a b bytes piece before out_old (Ok (Some i)) changes nexts takes k =
    let n = taken-packet d.half.stream d.takes old new bytes piece (d.half.came before) k.taken i k.stream changes nexts in
    taking-one first d old new a.translator.now b.translator.now bytes piece before out_old a.out.now b.out.now (d.packet i.0 i.1) (d.half.stream.packet n.at i.1) k changes.1 n.stream (d.laws.is_packet i.0 n.at i.1 n.place-is)
    (λ xs. d.laws.out_packet xs n.at i.1) (λ xs. d.laws.others_packet xs n.at i.1) (λ xs. d.laws.other_packet xs n.at i.1) (λ xs _. changes.2) takes.1
taking-item first d old new a b bytes piece before out_old (Err (Refused place why)) changes nexts takes k =
    let n = taken-wrong d.half.stream d.takes old new bytes piece (d.half.came before) k.taken place why k.stream changes nexts in
    taking-one first d old new a.translator.now b.translator.now bytes piece before out_old a.out.now b.out.now (d.wrong place why) (d.half.stream.wrong n.at why) k changes.0 n.stream (d.laws.is_wrong place n.at why n.place-is)
    (λ xs. d.laws.out_wrong xs n.at why) (λ xs. d.laws.others_wrong xs n.at why) (λ xs. d.laws.other_wrong xs n.at why) (λ xs e. absurd (true≢false (sym (d.laws.over_wrong xs n.at why) ∙ e))) takes.1
taking-item first d old new a b bytes piece before out_old (Err (OutOfMemory memory)) changes nexts takes k = absurd cc

-- ---- nothing more is there

finished-going : {S P : Type 0} (first : ℕ) (d : Side S P first) (takes : P → Bool) (old new : StreamView S) (t : Kept) (bytes piece : List ℕ) (before : List Item) (out_old out_new : Outputs) →
    Changes {P = P} (Ok None) old new → Nexts d.half.stream.reader takes (Ok None) old new → Taking first d.half old t bytes piece before out_old out_new → old.over ≡ false →
    Finished first d.half new t bytes piece before out_old out_new
finished-going {S = S} {P = P} first d takes old new t bytes piece before out_old out_new changes nexts k runs =
    let a = taken-all d.half.stream takes old new bytes piece (d.half.came before) k.taken k.stream changes nexts runs in
    let xs = onto k.taken before in
    let same : onto (added (items d.half.stream) bytes piece) before ≡ xs = ap (λ (l : List Item). onto l before) a.parts in
    let came : d.half.came xs ≡ d.half.came before ++ a.more = ap (λ (l : List Item). d.half.came (onto l before)) a.are ∙ came-onto first d a.more before in
    let over : d.half.over xs ≡ false = sym k.over_is ∙ runs in
    let all : HasAll d.half.stream.reader d.half.stream.start new (bytes ++ piece) (d.half.came xs) (d.half.over xs) =
    subst (λ (l : List (ℕ × P)). HasAll d.half.stream.reader d.half.stream.start new (bytes ++ piece) l (d.half.over xs)) (sym came)
    (subst (HasAll d.half.stream.reader d.half.stream.start new (bytes ++ piece) (d.half.came before ++ a.more)) (sym over) a.all) in
    record {
      all = subst (λ (l : List Item). HasAll d.half.stream.reader d.half.stream.start new (bytes ++ piece) (d.half.came l) (d.half.over l)) (sym same) all;
      translates = subst (Translates first t) (sym same) k.translates;
      sends = subst (SendsItems first out_old out_new before) (sym same) k.sends;
      others_are = ap d.half.others same ∙ k.others_are;
      other_over = ap d.half.other_over same ∙ k.other_over;
    }

finished-over : {S P : Type 0} (first : ℕ) (d : Side S P first) (old new : StreamView S) (t : Kept) (bytes piece : List ℕ) (before : List Item) (out_old out_new : Outputs) →
    AreBytes bytes → AreBytes piece → new ≡ passed old → Taking first d.half old t bytes piece before out_old out_new → old.over ≡ true →
    Finished first d.half new t bytes piece before out_old out_new
finished-over {S = S} first d old new t bytes piece before out_old out_new are more is k ends =
    let cut = cut-passed d.half.stream old new bytes piece k.taken is (k.stream.cut ends) in
    let xs = onto k.taken before in
    let over : d.half.over xs ≡ true = sym k.over_is ∙ ends in
    let skipped = skip-all first d cut.later xs over (each-later first d bytes piece k.taken cut.later cut.parts) in
    let ys = onto (added (items d.half.stream) bytes piece) before in
    let same : ys ≡ onto cut.later xs = ap (λ (l : List Item). onto l before) cut.parts ∙ onto-append k.taken cut.later before in
    let past-is : past first ys ≡ past first xs = ap (past first) same ∙ skipped.past-is in
    let still : d.half.over ys ≡ true = d.laws.over_past ys xs past-is ∙ over in
    record {
      all = record {
        over_is = ap (λ (k : StreamView S). k.over) is ∙ ends ∙ sym still;
        none = λ _. cut.none;
        empty = λ _. cut.empty;
        drained = λ going. absurd (true≢false (sym still ∙ going));
        whole = λ going. absurd (true≢false (sym still ∙ going));
        place = λ going. absurd (true≢false (sym still ∙ going));
        fits = AreBytes-append bytes piece are more;
      };
      translates = translates-past first t xs ys past-is k.translates;
      sends = sends-past first out_old out_new before xs ys past-is k.sends;
      others_are = ap d.half.others same ∙ skipped.others-are ∙ k.others_are;
      other_over = d.laws.other_past ys xs past-is ∙ k.other_over;
    }

finished-by : {S P : Type 0} (first : ℕ) (d : Side S P first) (takes : P → Bool) (old new : StreamView S) (t : Kept) (bytes piece : List ℕ) (before : List Item) (out_old out_new : Outputs) →
    AreBytes bytes → AreBytes piece → Changes {P = P} (Ok None) old new → Nexts d.half.stream.reader takes (Ok None) old new → Taking first d.half old t bytes piece before out_old out_new →
    (over : Bool) → old.over ≡ over → Finished first d.half new t bytes piece before out_old out_new
finished-by first d takes old new t bytes piece before out_old out_new are more changes nexts k false runs =
    finished-going first d takes old new t bytes piece before out_old out_new changes nexts k runs
finished-by first d takes old new t bytes piece before out_old out_new are more changes nexts k true ends =
    finished-over first d old new t bytes piece before out_old out_new are more changes k ends

-- ---- memory ran out

more-runs : {S P : Type 0} (old new : StreamView S) (answer : Result (Option (ℕ × P)) ReadError) → IsMore answer → Changes answer old new → old.over ≡ false
more-runs old new (Ok None) more changes = absurd more
more-runs old new (Ok (Some i)) more changes = changes.1
more-runs old new (Err (Refused place why)) more changes = changes.0
more-runs old new (Err (OutOfMemory memory)) more changes = changes.0

pub nothing-done : (t : Kept) (out : Outputs) → DoesNothing t t out out
nothing-done t out = record { same = refl; outputs = refl }

-- the taker did nothing with it, and more is there
lacks-nothing : {S P : Type 0} (first : ℕ) (d : Side S P first) (memory : Memory) (a b : ItemTaker) (answer : Result (Option (ℕ × P)) ReadError) → TakesAnswer (taking_of d) answer (Err memory) a b → DoesNothing a.translator.now b.translator.now a.out.now b.out.now
lacks-nothing first d memory a b (Ok None) takes = absurd takes
lacks-nothing first d memory a b (Ok (Some i)) takes = takes.1.0
lacks-nothing first d memory a b (Err (Refused place why)) takes = takes.1.0
lacks-nothing first d memory a b (Err (OutOfMemory m)) takes = subst (λ (t : ItemTaker). DoesNothing a.translator.now t.translator.now a.out.now t.out.now) (sym takes.1) (nothing-done a.translator.now a.out.now)

lacks-more : {S P : Type 0} (first : ℕ) (d : Side S P first) (memory : Memory) (a b : ItemTaker) (answer : Result (Option (ℕ × P)) ReadError) → TakesAnswer (taking_of d) answer (Err memory) a b → IsMore answer
lacks-more first d memory a b (Ok None) takes = takes
lacks-more first d memory a b (Ok (Some i)) takes = tt
lacks-more first d memory a b (Err e) takes = tt

wants-by : {S P : Type 0} (first : ℕ) (d : Side S P first) (memory : Memory) (a b : ItemTaker) (xs : List Item) (answer : Result (Option (ℕ × P)) ReadError) (x : Item) →
    IsNextBy d.half.stream d.takes answer x → TakesAnswer (taking_of d) answer (Err memory) a b → Translates first a.translator.now xs → d.half.over xs ≡ false → Wants first xs x
wants-by first d memory a b xs (Ok None) x is takes translates over = absurd is
wants-by {P = P} first d memory a b xs (Ok (Some i)) x is takes translates over =
    subst (Wants first xs) (sym is.2) (record {
      comes = d.laws.out_packet xs is.0 i.1 ∙ over;
      some = inr (takes.1.1 (state_of first (past first xs)) (d.half.stream.packet is.0 i.1) (d.laws.is_packet i.0 is.0 i.1 is.1) translates.state (state-sound first xs));
    })
wants-by first d memory a b xs (Err (Refused place why)) x is takes translates over =
    subst (Wants first xs) (sym is.2) (record {
      comes = d.laws.out_wrong xs is.0 why ∙ over;
      some = inr (takes.1.1 (state_of first (past first xs)) (d.half.stream.wrong is.0 why) (d.laws.is_wrong place is.0 why is.1) translates.state (state-sound first xs));
    })
wants-by first d memory a b xs (Err (OutOfMemory m)) x is takes translates over =
    subst (Wants first xs) (sym is.1) (record {
      comes = d.laws.out_packet xs is.0.0 is.0.1 ∙ over;
      some = inl (sym (d.laws.takes_is is.0.0 is.0.1) ∙ is.2);
    })

halted : {S P : Type 0} (first : ℕ) (d : Side S P first) (old new : StreamView S) (memory : Memory) (a b : ItemTaker) (bytes piece : List ℕ) (before : List Item) (out_old : Outputs) (answer : Result (Option (ℕ × P)) ReadError) →
    TakesAnswer (taking_of d) answer (Err memory) a b → Changes answer old new → Nexts d.half.stream.reader d.takes answer old new →
    Taking first d.half old a.translator.now bytes piece before out_old a.out.now → Halted first d.half new b.translator.now bytes piece before out_old b.out.now
halted {S = S} {P = P} first d old new memory a b bytes piece before out_old answer takes changes nexts k =
    let more = lacks-more first d memory a b answer takes in
    let runs = more-runs old new answer more changes in
    let stuck = taken-stuck d.half.stream d.takes old new bytes piece (d.half.came before) k.taken answer more k.stream changes nexts in
    let xs = onto k.taken before in
    let came : d.half.came xs ≡ d.half.came before ++ stuck.more = ap (λ (l : List Item). d.half.came (onto l before)) stuck.are ∙ came-onto first d stuck.more before in
    let over : d.half.over xs ≡ false = sym k.over_is ∙ runs in
    let nothing = lacks-nothing first d memory a b answer takes in
    record {
      taken = k.taken;
      next = stuck.next;
      behind = stuck.behind;
      parts = stuck.parts;
      wants = wants-by first d memory a b xs answer stuck.next stuck.next-is takes k.translates over;
      stands = record {
        going = λ _. subst (λ (l : List (ℕ × P)). IsLeftBy d.half.stream.reader new (split d.half.stream.reader d.half.stream.start (bytes ++ piece)) l new.over) (sym came) stuck.left;
        ended = λ ends. absurd (true≢false (sym ends ∙ over));
        none = stuck.none;
      };
      translates = subst (λ (t : Kept). Translates first t xs) (sym nothing.same) k.translates;
      sends = subst (λ (o : Outputs). SendsItems first out_old o before xs) (sym nothing.outputs) k.sends;
      others_are = k.others_are;
      other_over = k.other_over;
    }

-- ---- the whole piece

abbrev pub taken_side : {S P : Type 0} → TakenSide S P → TakenBy S P ItemTaker
taken_side s = taking_by s.reader s.takes s.flag s.packet s.wrong

abbrev pub side_at : {S P : Type 0} → TakenSide S P → (first : ℕ) → Side S P first
side_at s first = side-of s.steady (s.laws first)

-- wherever the side's stream stood
pub within : {S P : Type 0} (s : TakenSide S P) (old now : TakenStream S ItemTaker) (piece : List ℕ) → AreBytes piece → Reaches (taken_side s) old piece now →
    (first : ℕ) (bytes : List ℕ) (before : List Item) → IsAt first (s.half first) old.stream old.taker.translator.now bytes before →
    Taking first (s.half first) now.stream now.taker.translator.now bytes piece before old.taker.out.now now.taker.out.now
within {S = S} {P = P} s old now piece are r first bytes before at =
    let d = side_at s first in
    let is = sym (s.laws first).reader in
    reaches-keeps (taken_side s) (λ (k : TakenStream S ItemTaker). Taking first d.half k.stream k.taker.translator.now bytes piece before old.taker.out.now k.taker.out.now) old now piece
    (λ stream put puts. taking-first first d old.stream stream old.taker.translator.now bytes piece before old.taker.out.now are at.all at.translates put (subst (λ (x : Reader S P Reason). Puts x piece old.stream stream) is puts))
    (λ k l t one. subst (λ (x : StreamView S). Taking first d.half x l.taker.translator.now bytes piece before old.taker.out.now l.taker.out.now) (sym one.stream)
    (taking-item first d k.stream one.answered k.taker l.taker bytes piece before old.taker.out.now one.took.answer one.took.changes
    (subst (λ (x : Reader S P Reason). Nexts x s.takes one.took.answer k.stream one.answered) is one.took.nexts) one.took.takes t))
    r

-- what comes next is an item that the translator can take
pub can-take : {S P : Type 0} (s : TakenSide S P) → FitsNext s.half s.reader s.takes s.packet → (old now : TakenStream S ItemTaker) (piece : List ℕ) →
    ∥ ((first : ℕ) × ((bytes : List ℕ) × ((before : List Item) × IsAt first (s.half first) old.stream old.taker.translator.now bytes before))) ∥₁ → AreBytes piece → Reaches (taken_side s) old piece now →
    (new : StreamView S) (i : ℕ × P) → Changes (Ok (Some i)) now.stream new → Nexts s.reader s.takes (Ok (Some i)) now.stream new → ItemFits now.taker.translator.now.sides.agreed (s.packet i.0 i.1)
can-take s fits old now piece past are reaches new i changes nexts =
    fits now.stream new now.taker.translator.now i
    (λ runs. ∥∥₁_map past (λ w. (
      w.0,
      goes-on w.0 (side_at s w.0) now.stream now.taker.translator.now w.1.0 piece w.1.1.0 old.taker.out.now now.taker.out.now (within s old now piece are reaches w.0 w.1.0 w.1.1.0 w.1.1.1) runs,
    )))
    changes nexts

finished : {S P : Type 0} (s : TakenSide S P) (old last new : TakenStream S ItemTaker) (piece : List ℕ) → AreBytes piece → Reaches (taken_side s) old piece last → Finishes (taken_side s) last new →
    (first : ℕ) (bytes : List ℕ) (before : List Item) → IsAt first (s.half first) old.stream old.taker.translator.now bytes before → Finished first (s.half first) new.stream new.taker.translator.now bytes piece before old.taker.out.now new.taker.out.now
finished {S = S} {P = P} s old last new piece are reaches ends first bytes before at =
    let d = side_at s first in
    subst (λ (t : ItemTaker). Finished first d.half new.stream t.translator.now bytes piece before old.taker.out.now t.out.now) (sym ends.taker)
    (finished-by first d s.takes last.stream new.stream last.taker.translator.now bytes piece before old.taker.out.now last.taker.out.now at.all.fits are ends.changes
    (subst (λ (x : Reader S P Reason). Nexts {P = P} x s.takes (Ok None) last.stream new.stream) (sym (s.laws first).reader) ends.nexts)
    (within s old last piece are reaches first bytes before at) last.stream.over refl)

stopped : {S P : Type 0} (s : TakenSide S P) (memory : Memory) (old new : TakenStream S ItemTaker) (piece : List ℕ) → AreBytes piece → TakesBytes (taken_side s) (Err memory) old piece new →
    (first : ℕ) (bytes : List ℕ) (before : List Item) → IsAt first (s.half first) old.stream old.taker.translator.now bytes before →
    IsUnput old.stream new.stream old.taker.translator.now new.taker.translator.now piece old.taker.out.now new.taker.out.now ⊎ Halted first (s.half first) new.stream new.taker.translator.now bytes piece before old.taker.out.now new.taker.out.now
stopped s memory old new piece are (inl unput) first bytes before at = inl (record {
  kept = unput.stream;
  some = unput.some;
  nothing = subst (λ (t : ItemTaker). DoesNothing old.taker.translator.now t.translator.now old.taker.out.now t.out.now) (sym unput.taker) (nothing-done old.taker.translator.now old.taker.out.now);
})
stopped {S = S} {P = P} s memory old new piece are (inr w) first bytes before at =
    inr (halted first (side_at s first) w.0.stream new.stream memory w.0.taker new.taker bytes piece before old.taker.out.now w.1.1.answer w.1.1.takes w.1.1.changes
    (subst (λ (x : Reader S P Reason). Nexts x s.takes w.1.1.answer w.0.stream new.stream) (sym (s.laws first).reader) w.1.1.nexts)
    (within s old w.0 piece are w.1.0 first bytes before at))

takes-by : {S P : Type 0} (s : TakenSide S P) (r : Result (Unit {0}) Memory) (old new : TakenStream S ItemTaker) (piece : List ℕ) → AreBytes piece → TakesBytes (taken_side s) r old piece new →
    TakesPiece r s.half old.stream new.stream old.taker.translator.now new.taker.translator.now piece old.taker.out.now new.taker.out.now
takes-by s (Ok v) old new piece are takes = finished s old takes.0 new piece are takes.1.0 takes.1.1
takes-by s (Err memory) old new piece are takes = stopped s memory old new piece are takes

-- the translator and the outputs are what the taker leaves behind them
pub takes-piece : {S P : Type 0} (s : TakenSide S P) (r : Result (Unit {0}) Memory) (old new : TakenStream S ItemTaker) (t : Kept) (piece : List ℕ) (out : Outputs) → AreBytes piece → t ≡ new.taker.translator.now → out ≡ new.taker.out.now →
    TakesBytes (taken_side s) r old piece new → TakesPiece r s.half old.stream new.stream old.taker.translator.now t piece old.taker.out.now out
takes-piece s r old new t piece out are is sends takes =
    subst (λ (x : Kept). TakesPiece r s.half old.stream new.stream old.taker.translator.now x piece old.taker.out.now out) (sym is)
    (subst (λ (o : Outputs). TakesPiece r s.half old.stream new.stream old.taker.translator.now new.taker.translator.now piece old.taker.out.now o) (sym sends) (takes-by s r old new piece are takes))

-- ---- what is borrowed, which is the same at the end

pub borrows-piece : {S P : Type 0} (s : TakenSide S P) (r : Result (Unit {0}) Memory) (old new : TakenStream S ItemTaker) (piece : List ℕ) → TakesBytes (taken_side s) r old piece new → Borrows old.taker new.taker
borrows-piece s r old new piece takes =
    piece-keeps (taken_side s) (λ (t u : ItemTaker). Borrows t u) (λ t. record { translator = refl; out = refl })
    (λ t u v a b. record { translator = b.translator ∙ a.translator; out = b.out ∙ a.out }) (λ place found r t u took. took.0) r old piece new takes
