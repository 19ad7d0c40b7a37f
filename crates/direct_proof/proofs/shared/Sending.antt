-- The host does something: some of what it holds leaves, and it sends answers and facts.
use Rattle.std.proofs.Common.{◌≡◌, ℕ, ◌||◌, Bool, true, false, cond, List, [], ◌∷◌, ◌++◌, map, Option, Some, None, is_some, if◌then◌else◌, refl, sym, ap, ◌∙◌, subst}
use Rattle.std.specs.List.{list_any, AllByRecursion as Each}
use Rattle.std.proofs.lemmas.Bool.{both_ways, or_parts}
use Rattle.std.proofs.Math.Bool.{or-false}
use Rattle.std.proofs.lemmas.List.Folds.{list_any-append}
use Rattle.std.proofs.lemmas.List.{map-append}
use Rattle.usb_base.specs.Status.{status_of, status_byte, is_success}
use Rattle.redir_data.specs.declared.packet.RedirPacket.{RedirPacket}
use Rattle.model_device.specs.Meaning.{Meaning}
use Rattle.redir_host.specs.declared.state.host.Host.{Host}
use Rattle.redir_host.specs.declared.state.running.Running.{Running}
use Rattle.redir_host.specs.declared.state.request.Form.{Form}
use Rattle.redir_host.specs.declared.state.request.Form.TheVariants as form
use Rattle.redir_host.specs.write.Answers.{answer_by}
use Rattle.gate_history.proofs.lemmas.Lists.{Each-append}
use Rattle.gate_history.specs.declared.facts.Facts.{Facts}
use Rattle.gate_history.specs.state.Facts.{tell}
use Rattle.gate_history.specs.step.Meaning.{fact_of}
use Rattle.gate_history.specs.step.Marks.{Fact, Configuration}
use Rattle.direct_run.specs.Moves.{World}
use Rattle.direct_proof.specs.Requests.{Entry, Coming, at_queue, form_of, queued_transfer}
use Rattle.direct_proof.specs.Shared.{Shared}
use Rattle.direct_proof.specs.Tagged.{Tagged, ToldTable, ToldFaces, Answered, on_wire, runs_in}
use Rattle.direct_proof.specs.Related.{Farewell, Related}
use Rattle.direct_proof.specs.Session.{Session}
use Rattle.direct_proof.specs.Loads.{IsLoad}
use Rattle.direct_proof.specs.Ids.{Ids}
use Rattle.direct_proof.specs.Kinds.{TaggedOfKind, IsIn}
use Rattle.direct_proof.specs.Cancels.{Behind}
use Rattle.direct_proof.specs.Meets.{is_bye, is_greeting, is_plug, PlugOnce, ByeLast, Meets}
use Rattle.gate_history.specs.state.StreamIds.{StreamIds}
use Rattle.direct_proof.specs.StreamIds.{status_id, statuses_on, StatusIsKept}
use Rattle.direct_proof.proofs.shared.WireBack.{runs_in-append}
use Rattle.direct_proof.proofs.shared.Fits.{fits-each}
use Rattle.direct_proof.proofs.shared.Streaming.{controls-sent, fenced-sent}

-- ---- what it sends

-- answers and facts of the device
abbrev pub IsNews : Tagged → Type 0
IsNews (ToldTable t) = Unit {0}
IsNews (ToldFaces i) = Unit {0}
IsNews (Answered c) = Unit {0}
IsNews _ = ⊥

-- they are no end, no greeting and no coming of the device, and no status
record Plainly (b : Tagged) : Type 0 where
  bye : is_bye b ≡ false
  greeting : is_greeting b ≡ false
  plug : is_plug b ≡ false
  status : status_id b ≡ []
  kept : (c : StreamIds) → StatusIsKept c b

plainly : (b : Tagged) → IsNews b → Plainly b
plainly (ToldTable t) k = record { bye = refl; greeting = refl; plug = refl; status = refl; kept = λ z. tt }
plainly (ToldFaces i) k = record { bye = refl; greeting = refl; plug = refl; status = refl; kept = λ z. tt }
plainly (Answered c) k = record { bye = refl; greeting = refl; plug = refl; status = refl; kept = λ z. tt }
plainly _ k = absurd k

news-none : (test : Tagged → Bool) → ((b : Tagged) → Plainly b → test b ≡ false) → (cs : List Tagged) → Each IsNews cs → list_any test cs ≡ false
news-none test h [] k = refl
news-none test h (c ∷ cs) k = (λ i. h c (plainly c k.0) i || news-none test h cs k.1 i)

news-statuses : (cs : List Tagged) → Each IsNews cs → statuses_on cs ≡ []
news-statuses [] k = refl
news-statuses (c ∷ cs) k = (λ i. (plainly c k.0).status i ++ news-statuses cs k.1 i)

news-kept : (stream_ids : StreamIds) (cs : List Tagged) → Each IsNews cs → Each (StatusIsKept stream_ids) cs
news-kept stream_ids [] k = tt
news-kept stream_ids (c ∷ cs) k = ((plainly c k.0).kept stream_ids, news-kept stream_ids cs k.1)

-- ---- the wire back

pub no-bye : (bs : List Tagged) → list_any is_bye bs ≡ false → ByeLast bs
no-bye [] h = tt
no-bye (b ∷ bs) h = let r = or_parts (is_bye b) (list_any is_bye bs) h in ((λ z. absurd (both_ways (is_bye b) r.0 z)), no-bye bs r.1)

pub none-more : (test : Tagged → Bool) (bs cs : List Tagged) → list_any test cs ≡ false → list_any test (bs ++ cs) ≡ list_any test bs
none-more test bs cs h = list_any-append test bs cs ∙ ap (λ (b : Bool). list_any test bs || b) h ∙ or-false (list_any test bs)

pub once-more : (bs cs : List Tagged) → PlugOnce bs → list_any is_greeting cs ≡ false → list_any is_plug cs ≡ false → PlugOnce (bs ++ cs)
once-more [] cs o g p = go cs p
  where
    go : (ds : List Tagged) → list_any is_plug ds ≡ false → PlugOnce ds
    go [] h = tt
    go (d ∷ ds) h = let r = or_parts (is_plug d) (list_any is_plug ds) h in ((λ z. absurd (both_ways (is_plug d) r.0 z)), go ds r.1)
once-more (b ∷ bs) cs o g p = ((λ z. (none-more is_greeting bs cs g ∙ (o.0 z).0, none-more is_plug bs cs p ∙ (o.0 z).1)), once-more bs cs o.1 g p)

-- how far the two have met is the same behind what names neither the greeting nor the device
pub meets-sent : {S : Type 0} (w : World S) (j : Shared) (cs : List Tagged) → list_any is_greeting cs ≡ false → list_any is_plug cs ≡ false → Meets w j → Meets w (record j { back = j.back ++ cs })
meets-sent w j cs no_greeting no_plug k = record {
  host = k.host;
  gate = λ h. k.gate (sym (none-more is_greeting j.back cs no_greeting) ∙ h);
  announced = λ h p. ap (λ (b : Bool). is_some w.gate.facts.connect || b) (none-more is_plug j.back cs no_plug) ∙ k.announced h p;
  behind = λ h. let r = k.behind h in (none-more is_greeting j.back cs no_greeting ∙ r.0, none-more is_plug j.back cs no_plug ∙ r.1, r.2);
  once = once-more j.back cs k.once no_greeting no_plug;
  plugged = λ h. k.plugged (sym (none-more is_plug j.back cs no_plug) ∙ h);
  no_session = k.no_session;
}

-- and where another client is there, or none
pub meets-client : {S : Type 0} (w : World S) (j : Shared) (imported lost : Bool) → (imported ≡ true → lost ≡ false → is_some w.gate.facts.connect ≡ true) → Meets w j → Meets (record w { gate = record w.gate { sides = record w.gate.sides { imported = imported; lost = lost } } }) j
meets-client w j imported lost known k = record { host = k.host; gate = k.gate; announced = k.announced; behind = k.behind; once = k.once; plugged = k.plugged; no_session = known }

-- a host that is there has sent no farewell
pub farewell-sent : {S : Type 0} (h : Host S) (bs cs : List Tagged) → h.unplugged ≡ false → list_any is_bye bs ≡ false → list_any is_bye cs ≡ false → Farewell h (bs ++ cs)
farewell-sent h bs cs plugged none no_more = record {
  still = λ z. absurd (both_ways h.unplugged plugged z);
  bye = λ z. none-more is_bye bs cs no_more ∙ none;
  bye_last = no-bye (bs ++ cs) (none-more is_bye bs cs no_more ∙ none);
}

-- an answer tells no table, no interfaces and no connection
pub record TellsLittle (f g : Facts) : Type 0 where
  pub table : g.table ≡ f.table
  pub interfaces : g.interfaces ≡ f.interfaces
  pub connect : g.connect ≡ f.connect

abbrev fact_as : Bool → ℕ → Option Fact
fact_as b configuration = if b then Some (Configuration configuration) else None

pub answer-tells : (f : Facts) (c : Coming) → TellsLittle f (tell f (fact_of (on_wire (Answered c)).1))
answer-tells f c = go (form_of c.load)
  where
    maybe : (b : Bool) (configuration : ℕ) → TellsLittle f (tell f (fact_as b configuration))
    maybe true configuration = record { table = refl; interfaces = refl; connect = refl }
    maybe false configuration = record { table = refl; interfaces = refl; connect = refl }

    go : (x : Form) → TellsLittle f (tell f (fact_of (answer_by c.configuration x (queued_transfer c.load).ep c.outcome)))
    go (form.SetConfiguration asked) = maybe (is_success (status_of (status_byte c.outcome.status))) c.configuration
    go form.GetConfiguration = maybe (is_success (status_of (status_byte c.outcome.status))) c.configuration
    go _ = record { table = refl; interfaces = refl; connect = refl }

-- ---- the host

abbrev pub sent_world : {S : Type 0} → World S → S → List Entry → List Running → List Tagged → World S
sent_world w gadget held running cs = record w { host = record w.host { queue = map at_queue held; gadget = gadget; running = running }; to_gate = w.to_gate ++ map on_wire cs }

abbrev pub sent_shared : Shared → List Entry → List Tagged → Shared
sent_shared j held cs = record j { held = held; back = j.back ++ cs }

pub after-host : {S : Type 0} (m : Meaning S) (w : World S) (j : Shared) (gadget : S) (held : List Entry) (running : List Running) (cs : List Tagged) → Related m w j → w.host.unplugged ≡ false → w.host.guest.first ≡ false → Each IsNews cs →
    Each (λ (e : Entry). IsLoad e.load) (held ++ j.coming) → Each (TaggedOfKind w.gate.streams) cs → Ids j.debts w.submits (held ++ j.coming) (runs_in j.back ++ runs_in cs) →
    ((P : Entry → Type 0) → Each P j.held → Each P held) → Behind (held ++ j.coming) → (Session m w j → Session m (sent_world w gadget held running cs) (sent_shared j held cs)) → Each (λ (s : Running). IsIn s.ep) running →
    Related m (sent_world w gadget held running cs) (sent_shared j held cs)
after-host m w j gadget held running cs rel plugged first news loads tagged ids fewer behind session runs_in_range = record {
  line = record {
    held = ap (λ (b : Bool). cond b [] (map at_queue held)) (sym plugged);
    half = rel.line.half;
    coming = rel.line.coming;
    loads = loads;
    streams_in = rel.line.streams_in;
    cancels = fits-each j.held held fewer w.to_host j.coming rel.line.cancels;
    behind = behind;
  };
  answers = ap (λ (l : List (ℕ × RedirPacket)). l ++ map on_wire cs) rel.answers ∙ sym (map-append on_wire j.back cs);
  tagged = Each-append (TaggedOfKind w.gate.streams) j.back cs rel.tagged tagged;
  ids = subst (Ids j.debts w.submits (held ++ j.coming)) (sym (runs_in-append j.back cs)) ids;
  real = rel.real;
  runs_at_in = runs_in_range;
  before = λ h. absurd (both_ways w.host.guest.first first h);
  asked = rel.asked;
  meets = meets-sent w j cs greetingless plugless rel.meets;
  debts = rel.debts;
  controls = λ h. controls-sent w.gate.stream_ids w.to_host j.back cs (news-statuses cs news) (news-kept w.gate.stream_ids cs news) (rel.controls h);
  fenced = λ h. fenced-sent w.gate.fence j.fenced w.to_host j.back cs (news-statuses cs news) (rel.fenced h);
  alone = rel.alone;
  session = λ h a. session (rel.session h (ap (λ (b : Bool). is_some w.gate.facts.connect || b) (sym (none-more is_plug j.back cs plugless)) ∙ a));
  ups = rel.ups;
  down = rel.down;
  lost = λ h. absurd (both_ways w.host.unplugged plugged (rel.lost h).1);
  sides = rel.sides;
  farewell = farewell-sent (sent_world w gadget held running cs).host j.back cs plugged (rel.farewell.bye plugged) (news-none is_bye (λ b p. p.bye) cs news);
}
  where
    greetingless : list_any is_greeting cs ≡ false
    greetingless = news-none is_greeting (λ b p. p.greeting) cs news

    plugless : list_any is_plug cs ≡ false
    plugless = news-none is_plug (λ b p. p.plug) cs news
