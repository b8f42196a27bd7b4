-- A cluster that is computed: a member alone is killed while it stores a put, is opened again, answers a get, ends, is opened
-- again, and goes to a configuration of two members.
use Rattle.std.proofs.Common.{◌≡◌, ℕ, zero, suc, true, false, List, [], ◌∷◌, ◌++◌, map, length, Some, None, nat_lt, refl, ◌∙◌, arith, append_assoc, inl, inr}
use Rattle.std.specs.List.{list_all}
use Rattle.std.proofs.lemmas.Bool.{and_parts, ltb-true}
use Rattle.std.proofs.lemmas.List.Elements.{All-nil, All-cons}
use Rattle.op_types.specs.Ranges.{IsPid}
use Rattle.op_types.specs.declared.ballot.Ballot.{Ballot}
use Rattle.op_types.specs.declared.durable.Durable.{Durable}
use Rattle.op_types.specs.declared.events.Input.{Input}
use Rattle.op_types.specs.declared.events.Input.TheVariants as input
use Rattle.op_types.specs.declared.events.Request.{Request}
use Rattle.op_types.specs.declared.events.Request.TheVariants as request
use Rattle.op_types.specs.declared.answers.Outcome.TheVariants as outcome
use Rattle.op_types.specs.declared.log.Command.{Command}
use Rattle.op_types.specs.declared.log.Entry.TheVariants as entry
use Rattle.op_spec.specs.Service.{new_service, base_bytes}
use Rattle.op_fields.specs.Form.{encoded, items_read}
use Rattle.op_fields.specs.Reads.{IsBytes}
use Rattle.op_frame.specs.Framing.{frame_of}
use Rattle.op_kv.specs.Rising.{rising_read}
use Rattle.op_command.specs.Requests.{request_form}
use Rattle.op_command.specs.declared.said.Said.TheVariants as said
use Rattle.op_setup.specs.declared.config.Settings.{Settings}
use Rattle.op_outside.specs.Nets.{SawBytes}
use Rattle.op_outside.specs.declared.net.Addr.{Addr}
use Rattle.op_outside.specs.declared.net.Happening.TheVariants.{Accepted, Readable}
use Rattle.op_outside.specs.declared.net.Took.TheVariants as took
use Rattle.op_serving.specs.Cores.{gives, after_input}
use Rattle.op_serving.specs.Fates.{done}
use Rattle.op_serving.specs.Inputs.{State, Deed, Taken, begins, hears, enters, says, takes, takes_in, taken_as, handing, released, drained, rest, frames_after_all}
use Rattle.op_serving.specs.Reading.{greeting, first_frame}
use Rattle.op_serving.specs.Room.{moved, frames_moved}
use Rattle.op_serving.specs.State.{shed}
use Rattle.op_serving.specs.Turns.{at_happening}
use Rattle.op_serving.specs.Wire.{client_head, request_in, client_frame, fits_peer}
use Rattle.op_serving.specs.Pump.{writes_place, Pump, Answer, was_waited, was_told, was_readied, was_seen, was_written, no_answer, after}
use Rattle.op_serving.specs.Answers.{Answers}
use Rattle.op_pump.specs.Moments.{PeersInRange, set_of}
use Rattle.op_pump.specs.Serving.{started}
use Rattle.op_connections.proofs.Folding.{Folds, folds_none, folding}
use Rattle.op_connections.proofs.Walking.{drained_holds}
use Rattle.op_cluster_laws.specs.Clusters.{Coming}
use Rattle.op_cluster_laws.specs.Lives.{Serves}
use Rattle.op_cluster_laws.specs.Traces.{Event, does, ends, killed, opens, Lived, lived_by}
use Rattle.op_linear.specs.Inhabited.{one, a_put, a_get, GoesOn, SomeClusterGoesOn}
use Rattle.op_linear.proofs.Alone.{at_one, Goes, born, Ranges, a_cluster, AreMild, all_mild, none_mild, fine, goes_by}
use Rattle.op_linear.proofs.Worked.{no_line, no_luck}

-- ---- what it is given

abbrev pub nowhere : Addr
nowhere = record { host = 0; port = 1 }

abbrev o : Settings
o = record { tick_ms = 100; turns = 10; members = one; peers = (1, nowhere) ∷ (2, nowhere) ∷ []; is_mirrored = false; observers = []; trim_every = None; cluster = None }

peers_fit : PeersInRange o
peers_fit = All-cons (λ p. IsPid p.0) (1, nowhere) ((2, nowhere) ∷ []) (omega arith, omega arith) (All-cons (λ p. IsPid p.0) (2, nowhere) [] (omega arith, omega arith) (All-nil (λ p. IsPid p.0)))

-- a client's frame
abbrev pub asks : Request → List ℕ
asks r = frame_of client_head (request_form.text r)

-- the first bytes of a client's connection
abbrev pub first_asks : Request → List ℕ
first_asks r = 67 ∷ asks r

-- each is a byte
pub are_bytes : (xs : List ℕ) → list_all (λ b. nat_lt b 256) xs ≡ true → IsBytes xs
are_bytes [] e i = omega arith
are_bytes (x ∷ xs) e zero = ltb-true x 256 (and_parts (nat_lt x 256) (list_all (λ b. nat_lt b 256) xs) e).0
are_bytes (x ∷ xs) e (suc i) = are_bytes xs (and_parts (nat_lt x 256) (list_all (λ b. nat_lt b 256) xs) e).1 i

-- a tick, and a client that connects and says this
abbrev ticks_then : ℕ → List ℕ → List Answer
ticks_then conn bytes =
    was_waited (Some 2) ∷ was_told 100 ∷ no_answer ∷ no_answer ∷ no_answer ∷ was_readied (Accepted conn) ∷ was_readied (Readable conn)
    ∷ was_seen (SawBytes bytes) ∷ []

-- what is said behind what was taken
pub grown : (s : State) → Folds s (drained no_luck s)
grown s = drained_holds no_luck (Folds s) (folding no_luck s).falls s (folds_none s s refl refl)

-- ---- the first life: it is killed while it stores a put

abbrev put_input : Input
put_input = input.Commands (a_put ∷ [])

abbrev put_bytes : List ℕ
put_bytes = first_asks (request.Command a_put)

abbrev deeds_1 : List Deed
deeds_1 = enters [] input.Tick done ∷ begins 7 [] ∷ hears 7 put_bytes ∷ []

-- before the writes of the turn
abbrev pump_1 : Pump
pump_1 = after (set_of o) no_luck no_line (ticks_then 7 put_bytes) (started o born.first 0)

abbrev state_1 : State
state_1 = released (at_happening writes_place pump_1.driver)

abbrev taken_1 : List Taken
taken_1 = taken_as (7 ∷ []) put_input done state_1 ∷ []

abbrev entered_1 : State
entered_1 = takes_in (7 ∷ []) put_input done state_1

abbrev handed_1 : State
handed_1 = handing no_luck taken_1 entered_1

abbrev answers_1 : List Answer
answers_1 = ticks_then 7 put_bytes ++ no_answer ∷ []

fit_1 : Answers (set_of o) no_luck no_line answers_1 (started o born.first 0)
unfolding drained rest shed gives after_input greeting first_frame request_in client_frame fits_peer encoded items_read moved frames_moved rising_read
fit_1 = (omega arith, (tt, (tt, (tt, (tt, (tt, (tt, ((omega arith, omega arith, are_bytes put_bytes refl), (tt, tt)))))))))

abbrev later_1 : List Deed
later_1 = map says (frames_after_all taken_1 entered_1.loop) ++ (grown handed_1).added

are_1 : (after (set_of o) no_luck no_line answers_1 (started o born.first 0)).driver.deeds ≡ (deeds_1 ++ enters (7 ∷ []) put_input done ∷ []) ++ later_1
unfolding drained rest shed gives after_input greeting first_frame request_in client_frame fits_peer encoded items_read moved frames_moved rising_read
are_1 = (grown handed_1).deeds ∙ append_assoc (deeds_1 ++ enters (7 ∷ []) put_input done ∷ []) (map says (frames_after_all taken_1 entered_1.loop)) (grown handed_1).added

serves_put : Serves born.first (deeds_1 ++ enters (7 ∷ []) put_input done ∷ [])
serves_put = record {
  settings = o;
  peers = peers_fit;
  line = no_line;
  luck = no_luck;
  start = 0;
  answers = answers_1;
  fit = fit_1;
  later = later_1;
  are = are_1;
}

serves_1 : Serves born.first deeds_1
serves_1 = record {
  settings = o;
  peers = peers_fit;
  line = no_line;
  luck = no_luck;
  start = 0;
  answers = answers_1;
  fit = fit_1;
  later = enters (7 ∷ []) put_input done ∷ later_1;
  are = are_1;
}

-- ---- what its disks hold

abbrev ballot : ℕ → Ballot
ballot n = record { number = n; pid = 1 }

-- these commands are decided, in this ballot
abbrev stored : ℕ → List Command → Durable
stored n cs = record {
  part = Some (record {
    conf = 1;
    members = one;
    promised = ballot n;
    accepted = ballot n;
    base = base_bytes new_service;
    trimmed = 0;
    tail = record { items = map (λ c. entry.Command c) cs; room = 0 };
    decided = length cs;
  });
  closed = None;
  joining = None;
}

abbrev stored_1 : Durable
stored_1 = stored 1 (a_put ∷ [])

abbrev stored_2 : Durable
stored_2 = stored 2 (a_put ∷ a_get ∷ [])

abbrev life_1 : Lived
life_1 = record born { deeds = deeds_1 }

abbrev kills : Event
kills = killed ((7 ∷ [], put_input) ∷ [])

abbrev life_2 : Lived
life_2 = lived_by (lived_by life_1 kills) (opens stored_1 0)

-- ---- the second life: it answers a get

abbrev get_input : Input
get_input = input.Commands (a_get ∷ [])

abbrev get_bytes : List ℕ
get_bytes = first_asks (request.Command a_get)

abbrev deeds_2 : List Deed
deeds_2 = enters [] input.Tick done ∷ begins 8 [] ∷ hears 8 get_bytes ∷ enters (8 ∷ []) get_input done ∷ []

abbrev pump_2 : Pump
pump_2 = after (set_of o) no_luck no_line (ticks_then 8 get_bytes) (started o life_2.first 0)

abbrev state_2 : State
state_2 = released (at_happening writes_place pump_2.driver)

abbrev taken_2 : List Taken
taken_2 = taken_as (8 ∷ []) get_input done state_2 ∷ []

abbrev entered_2 : State
entered_2 = takes_in (8 ∷ []) get_input done state_2

abbrev handed_2 : State
handed_2 = handing no_luck taken_2 entered_2

abbrev answers_2 : List Answer
answers_2 = ticks_then 8 get_bytes ++ no_answer ∷ []

fit_2 : Answers (set_of o) no_luck no_line answers_2 (started o life_2.first 0)
unfolding drained rest shed gives after_input greeting first_frame request_in client_frame fits_peer encoded items_read moved frames_moved rising_read
fit_2 = (omega arith, (tt, (tt, (tt, (tt, (tt, (tt, ((omega arith, omega arith, are_bytes get_bytes refl), (tt, tt)))))))))

abbrev later_2 : List Deed
later_2 = map says (frames_after_all taken_2 entered_2.loop) ++ (grown handed_2).added

are_2 : (after (set_of o) no_luck no_line answers_2 (started o life_2.first 0)).driver.deeds ≡ deeds_2 ++ later_2
unfolding drained rest shed gives after_input greeting first_frame request_in client_frame fits_peer encoded items_read moved frames_moved rising_read
are_2 = (grown handed_2).deeds ∙ append_assoc deeds_2 (map says (frames_after_all taken_2 entered_2.loop)) (grown handed_2).added

serves_2 : Serves life_2.first deeds_2
serves_2 = record {
  settings = o;
  peers = peers_fit;
  line = no_line;
  luck = no_luck;
  start = 0;
  answers = answers_2;
  fit = fit_2;
  later = later_2;
  are = are_2;
}

abbrev life_2_ended : Lived
life_2_ended = lived_by (record life_2 { deeds = deeds_2 }) ends

abbrev life_3 : Lived
life_3 = lived_by life_2_ended (opens stored_2 0)

-- ---- the third life: the members change

abbrev stop_input : Input
stop_input = input.Stop (1 ∷ 2 ∷ [])

abbrev stop_bytes : List ℕ
stop_bytes = first_asks (request.Stop (1 ∷ 2 ∷ []))

abbrev told_3 : List ℕ
told_3 = client_frame (record { client = 0; seq = 0; said = said.Outcome (outcome.Appended 1 2) })

abbrev answers_3 : List Answer
answers_3 = ticks_then 9 stop_bytes ++ no_answer ∷ was_written (Some (took.Bytes 33)) ∷ []

abbrev deeds_3 : List Deed
deeds_3 = enters [] input.Tick done ∷ begins 9 [] ∷ hears 9 stop_bytes ∷ enters (9 ∷ []) stop_input done ∷ says (9, told_3) ∷ takes 9 told_3 ∷ []

fit_3 : Answers (set_of o) no_luck no_line answers_3 (started o life_3.first 0)
unfolding drained rest shed gives after_input greeting first_frame request_in client_frame fits_peer encoded items_read moved frames_moved rising_read
fit_3 = (omega arith, (tt, (tt, (tt, (tt, (tt, (tt, ((omega arith, omega arith, are_bytes stop_bytes refl), (tt, ((omega arith, omega arith), tt))))))))))

are_3 : (after (set_of o) no_luck no_line answers_3 (started o life_3.first 0)).driver.deeds ≡ deeds_3 ++ []
unfolding drained rest shed gives after_input greeting first_frame request_in client_frame fits_peer encoded items_read moved frames_moved rising_read
are_3 = refl

serves_3 : Serves life_3.first deeds_3
serves_3 = record {
  settings = o;
  peers = peers_fit;
  line = no_line;
  luck = no_luck;
  start = 0;
  answers = answers_3;
  fit = fit_3;
  later = [];
  are = are_3;
}

-- ---- all of it

abbrev events : List Event
events = map (λ d. does d) deeds_1 ++ kills ∷ opens stored_1 0 ∷ (map (λ d. does d) deeds_2 ++ ends ∷ opens stored_2 0 ∷ (map (λ d. does d) deeds_3 ++ []))

mild_1 : AreMild [] deeds_1
unfolding encoded
mild_1 = (tt, (refl, (inl (asks (request.Command a_put), refl), tt)))

mild_2 : AreMild [] deeds_2
unfolding encoded
mild_2 = (tt, (refl, (inl (asks (request.Command a_get), refl), (tt, tt))))

mild_3 : AreMild [] deeds_3
unfolding encoded
mild_3 = (tt, (refl, (inl (asks (request.Stop (1 ∷ 2 ∷ [])), refl), (tt, (tt, (tt, tt))))))

-- it is killed, with the put on its way to its disks, which hold it
goes_3 : Goes life_3 (map (λ d. does d) deeds_3 ++ [])
unfolding gives after_input
goes_3 = goes_by life_3 deeds_3 [] refl serves_3 (tt, (tt, tt)) none_mild mild_3
    (fine (record life_3 { deeds = deeds_3 }) (record { serves = serves_3; stored = (tt, (tt, tt)) }) (all_mild [] deeds_3 none_mild mild_3))

goes_2 : Goes life_2 (map (λ d. does d) deeds_2 ++ ends ∷ opens stored_2 0 ∷ (map (λ d. does d) deeds_3 ++ []))
unfolding gives after_input encoded items_read rising_read
goes_2 = goes_by life_2 deeds_2 (ends ∷ opens stored_2 0 ∷ (map (λ d. does d) deeds_3 ++ [])) refl serves_2 (tt, (tt, tt)) none_mild mild_2 (
  fine (record life_2 { deeds = deeds_2 }) (record { serves = serves_2; stored = (tt, (tt, tt)) }) (all_mild [] deeds_2 none_mild mild_2),
  refl,
  (
    fine life_2_ended (record { serves = serves_2; stored = (tt, (tt, tt)) }) (all_mild [] deeds_2 none_mild mild_2),
    inl refl,
    goes_3,
  ),
)

abbrev coming : List Coming
coming = ((7 ∷ [], put_input), done) ∷ []

goes_1 : Goes born events
unfolding gives after_input encoded items_read rising_read
goes_1 = goes_by born deeds_1 (kills ∷ opens stored_1 0 ∷ (map (λ d. does d) deeds_2 ++ ends ∷ opens stored_2 0 ∷ (map (λ d. does d) deeds_3 ++ [])))
    refl serves_1 (tt, tt) none_mild mild_1 (
      fine life_1 (record { serves = serves_1; stored = (tt, tt) }) (all_mild [] deeds_1 none_mild mild_1),
      (refl, (coming, refl, serves_put)),
      (
        fine (lived_by life_1 kills) (record { serves = serves_1; stored = (tt, tt) }) (all_mild [] deeds_1 none_mild mild_1),
        inr refl,
        goes_2,
      ),
    )

few : Ranges events
unfolding gives after_input encoded items_read rising_read
few = record { messages = omega arith; proposals = omega arith }

goes_on : GoesOn (map at_one events)
unfolding gives after_input encoded items_read rising_read
goes_on = record {
  before = map at_one (map (λ d. does d) deeds_1);
  since = map at_one (map (λ d. does d) deeds_2 ++ ends ∷ opens stored_2 0 ∷ (map (λ d. does d) deeds_3 ++ []));
  found = stored_1;
  crash = refl;
  now = map at_one (map (λ d. does d) deeds_1 ++ kills ∷ opens stored_1 0 ∷ map (λ d. does d) deeds_2);
  later = map at_one (ends ∷ opens stored_2 0 ∷ (map (λ d. does d) deeds_3 ++ []));
  split = refl;
  gets = refl;
  part = refl;
}

pub some_cluster_goes_on : SomeClusterGoesOn
some_cluster_goes_on = (map at_one events, a_cluster events goes_1 few, goes_on)
