-- What two members do that is computed: node 2 dials node 1, which is elected, and of which a client then asks a put and a read.
use Rattle.std.proofs.Common.{◌≡◌, ◌-◌, ℕ, Bool, true, false, List, [], ◌∷◌, ◌++◌, map as each, length, Option, Some, None, refl, sym, ap, subst, ◌∙◌, arith, append_assoc}
use Rattle.std.specs.FinMap as map
use Rattle.std.proofs.lemmas.List.Elements.{All-nil, All-cons}
use Rattle.op_types.specs.Ranges.{IsPid}
use Rattle.op_types.specs.Ballots.{no_ballot}
use Rattle.op_types.specs.declared.ballot.Ballot.{Ballot}
use Rattle.op_types.specs.declared.events.Input.TheVariants as input
use Rattle.op_types.specs.declared.events.Request.TheVariants as request
use Rattle.op_types.specs.declared.log.Entry.TheVariants as entry
use Rattle.op_types.specs.declared.messages.Body.{Body}
use Rattle.op_types.specs.declared.messages.Body.TheVariants as body
use Rattle.op_types.specs.declared.messages.Msg.{Msg}
use Rattle.op_types.specs.Roles.{Role, Idle, Preparing, Leading}
use Rattle.op_types.specs.declared.log.Entry.{Entry}
use Rattle.op_types.specs.declared.messages.Heard.{Heard}
use Rattle.op_spec.specs.Service.{new_service, base_bytes}
use Rattle.op_reads.specs.Reads.{Reads, no_reads, with_read}
use Rattle.op_protocol.specs.State.{Volatile, Waiting}
use Rattle.op_runs.specs.World.{Votes}
use Rattle.op_frame.specs.Framing.{stream_of}
use Rattle.op_fields.specs.Form.{encoded, items_read}
use Rattle.op_kv.specs.Rising.{rising_read}
use Rattle.op_setup.specs.declared.config.Settings.{Settings}
use Rattle.op_outside.specs.Nets.{SawBytes}
use Rattle.op_outside.specs.declared.net.Happening.TheVariants.{Accepted, Readable}
use Rattle.op_outside.specs.declared.net.Took.TheVariants as took
use Rattle.op_serving.specs.Cores.{Standing, gives, after_input}
use Rattle.op_serving.specs.Fates.{done}
use Rattle.op_serving.specs.Inputs.{State, Deed, Taken, begins, hears, enters, says, takes, takes_in, taken_as, handing, released, drained, rest, frames_after_all}
use Rattle.op_serving.specs.declared.kind.Kind.TheVariants.{Peer, Client}
use Rattle.op_serving.specs.declared.session.Session.{Session}
use Rattle.op_serving.specs.Reading.{client_limit, peer_limit, greeting, first_frame}
use Rattle.op_serving.specs.Room.{moved, frames_moved}
use Rattle.op_serving.specs.State.{Table, Askers, shed}
use Rattle.op_serving.specs.Turns.{at_happening, hello}
use Rattle.op_serving.specs.Wire.{client_head, peer_head, request_in, message_in, peer_frame, fits_peer}
use Rattle.op_serving.specs.Pump.{writes_place, Pump, Answer, turn, asks, shut, answered, was_waited, was_told, was_dialled, was_readied, was_seen, was_written, no_answer, after}
use Rattle.op_serving.specs.Answers.{Answers}
use Rattle.op_pump.specs.Moments.{PeersInRange, set_of}
use Rattle.op_pump.specs.Serving.{started}
use Rattle.op_cluster_laws.specs.Lives.{Serves}
use Rattle.op_linear.specs.Inhabited.{two, a_put, a_read}
use Rattle.op_linear.proofs.Worked.{no_line, no_luck}
use Rattle.op_linear.proofs.Goes.{nowhere, first_asks, asks as asks_so, are_bytes, grown}
use Rattle.op_linear.proofs.Pairing.{first_of}

-- ---- what it is given

abbrev o1 : Settings
o1 = record { tick_ms = 100; turns = 10; members = two; peers = (2, nowhere) ∷ []; is_mirrored = false; observers = []; trim_every = None; cluster = None }

abbrev o2 : Settings
o2 = record { tick_ms = 100; turns = 10; members = two; peers = (1, nowhere) ∷ []; is_mirrored = false; observers = []; trim_every = None; cluster = None }

peers_1 : PeersInRange o1
peers_1 = All-cons (λ p. IsPid p.0) (2, nowhere) [] (omega arith, omega arith) (All-nil (λ p. IsPid p.0))

peers_2 : PeersInRange o2
peers_2 = All-cons (λ p. IsPid p.0) (1, nowhere) [] (omega arith, omega arith) (All-nil (λ p. IsPid p.0))

-- ---- their messages

abbrev says_it : Body → Msg
says_it b = record { conf = 1; body = b }

-- the ballot that node 1 leads, and the one that node 2 stands for
abbrev own_1 : Ballot
own_1 = record { number = 1; pid = 1 }

abbrev own_2 : Ballot
own_2 = record { number = 1; pid = 2 }

abbrev asks_round : ℕ → Msg
asks_round n = says_it (body.HeartbeatRequest n)

abbrev tells_round : ℕ → Msg
tells_round n = says_it (body.HeartbeatReply n own_2 false)

abbrev wish : Msg
wish = says_it body.PrepareReq

abbrev prepares : Msg
prepares = says_it (body.Prepare own_1 no_ballot 0 0)

abbrev promises : Msg
promises = says_it (body.Promise own_1 no_ballot 0 0 0 [])

abbrev syncs : Msg
syncs = says_it (body.AcceptSync own_1 0 [])

abbrev accepts : Msg
accepts = says_it (body.Accept own_1 0 (entry.Command a_put ∷ []))

abbrev accepted : ℕ → Msg
accepted n = says_it (body.Accepted own_1 n)

abbrev confirms : Msg
confirms = says_it (body.Confirm own_1 1)

abbrev confirmed : Msg
confirmed = says_it (body.Confirmed own_1 1)

-- as frames, from node 1 to node 2 and back
abbrev to_2 : Msg → List ℕ
to_2 m = peer_frame 1 2 m

abbrev to_1 : Msg → List ℕ
to_1 m = peer_frame 2 1 m

-- what is taken at once, and read at once
abbrev asked_1 : List ℕ
asked_1 = to_2 wish ++ to_2 (asks_round 1)

abbrev told_1 : List ℕ
told_1 = to_1 wish ++ to_1 (tells_round 1)

abbrev asked_2 : List ℕ
asked_2 = to_2 (asks_round 2) ++ to_2 prepares

abbrev told_2 : List ℕ
told_2 = to_1 (tells_round 2) ++ to_1 promises

abbrev asked_3 : List ℕ
asked_3 = to_2 syncs ++ (to_2 accepts ++ to_2 confirms)

abbrev told_3 : List ℕ
told_3 = to_1 (accepted 0) ++ (to_1 (accepted 1) ++ to_1 confirmed)

abbrev client_bytes : List ℕ
client_bytes = first_asks (request.Command a_put) ++ asks_so (request.Read a_read)

-- a message from the other node comes
abbrev comes_1 : Msg → Deed
comes_1 m = enters (4 ∷ []) (input.Deliver 2 m) done

abbrev comes_2 : Msg → Deed
comes_2 m = enters (5 ∷ []) (input.Deliver 1 m) done

-- all that waits for a connection is taken, of so many bytes
abbrev took_all : List ℕ → Answer
took_all bytes = was_written (Some (took.Bytes (length bytes)))

-- ---- node 2

abbrev answers_2 : List Answer
answers_2 =
    was_waited (Some 0) ∷ was_told 100 ∷ was_dialled (Some (Some 5)) ∷ no_answer ∷ no_answer ∷ took_all (hello 2) ∷ was_written (Some took.NotYet) ∷ no_answer
    ∷ was_waited (Some 1) ∷ was_told 150 ∷ was_readied (Readable 5) ∷ was_seen (SawBytes asked_1) ∷ no_answer ∷ took_all told_1 ∷ no_answer
    ∷ was_waited (Some 1) ∷ was_told 160 ∷ was_readied (Readable 5) ∷ was_seen (SawBytes asked_2) ∷ no_answer ∷ took_all told_2 ∷ no_answer
    ∷ was_waited (Some 1) ∷ was_told 170 ∷ was_readied (Readable 5) ∷ was_seen (SawBytes asked_3) ∷ no_answer ∷ took_all told_3 ∷ no_answer ∷ []

abbrev pub dials_2 : List Deed
dials_2 = enters [] input.Tick done ∷ begins 5 (hello 2) ∷ takes 5 (hello 2) ∷ enters [] (input.Up 1) done ∷ says (5, to_1 wish) ∷ []

abbrev pub replies_2 : List Deed
replies_2 = hears 5 asked_1 ∷ comes_2 wish ∷ comes_2 (asks_round 1) ∷ says (5, to_1 (tells_round 1)) ∷ takes 5 told_1 ∷ []

abbrev pub promises_2 : List Deed
promises_2 = hears 5 asked_2 ∷ comes_2 (asks_round 2) ∷ comes_2 prepares ∷ says (5, to_1 (tells_round 2)) ∷ says (5, to_1 promises) ∷ takes 5 told_2 ∷ []

abbrev pub accepts_2 : List Deed
accepts_2 =
    hears 5 asked_3 ∷ comes_2 syncs ∷ comes_2 accepts ∷ comes_2 confirms ∷ says (5, to_1 (accepted 0)) ∷ says (5, to_1 (accepted 1)) ∷ says (5, to_1 confirmed) ∷ takes 5 told_3 ∷ []

abbrev pub deeds_2 : List Deed
deeds_2 = dials_2 ++ (replies_2 ++ (promises_2 ++ accepts_2))

fit_2 : Answers (set_of o2) no_luck no_line answers_2 (started o2 (first_of 2) 0)
unfolding drained rest shed gives after_input greeting first_frame request_in message_in peer_frame hello fits_peer encoded items_read moved frames_moved rising_read
fit_2 = (
  omega arith,
  (
    tt,
    (
      tt,
      (
        tt,
        (
          tt,
          (
            (omega arith, omega arith),
            (
              tt,
              (
                tt,
                (
                  omega arith,
                  (
                    tt,
                    (
                      tt,
                      (
                        (omega arith, omega arith, are_bytes asked_1 refl),
                        (
                          tt,
                          (
                            (omega arith, omega arith),
                            (
                              tt,
                              (
                                omega arith,
                                (
                                  tt,
                                  (
                                    tt,
                                    (
                                      (omega arith, omega arith, are_bytes asked_2 refl),
                                      (
                                        tt,
                                        (
                                          (omega arith, omega arith),
                                          (
                                            tt,
                                            (omega arith, (tt, (tt, ((omega arith, omega arith, are_bytes asked_3 refl), (tt, ((omega arith, omega arith), (tt, tt))))))),
                                          ),
                                        ),
                                      ),
                                    ),
                                  ),
                                ),
                              ),
                            ),
                          ),
                        ),
                      ),
                    ),
                  ),
                ),
              ),
            ),
          ),
        ),
      ),
    ),
  ),
)

are_2 : (after (set_of o2) no_luck no_line answers_2 (started o2 (first_of 2) 0)).driver.deeds ≡ deeds_2 ++ []
unfolding drained rest shed gives after_input greeting first_frame request_in message_in peer_frame hello fits_peer encoded items_read moved frames_moved rising_read
are_2 = refl

pub serves_2 : Serves (first_of 2) deeds_2
serves_2 = record {
  settings = o2;
  peers = peers_2;
  line = no_line;
  luck = no_luck;
  start = 0;
  answers = answers_2;
  fit = fit_2;
  later = [];
  are = are_2;
}

-- ---- node 1

abbrev turn_1 : List Answer
turn_1 = was_waited (Some 2) ∷ was_told 50 ∷ was_readied (Accepted 4) ∷ was_readied (Readable 4) ∷ was_seen (SawBytes (hello 2)) ∷ no_answer ∷ was_written (Some took.NotYet) ∷ no_answer ∷ []

abbrev turn_2 : List Answer
turn_2 = was_waited (Some 0) ∷ was_told 100 ∷ no_answer ∷ no_answer ∷ no_answer ∷ took_all asked_1 ∷ no_answer ∷ []

abbrev turn_3 : List Answer
turn_3 = was_waited (Some 1) ∷ was_told 150 ∷ was_readied (Readable 4) ∷ was_seen (SawBytes told_1) ∷ no_answer ∷ no_answer ∷ []

abbrev turn_4 : List Answer
turn_4 = was_waited (Some 0) ∷ was_told 200 ∷ no_answer ∷ no_answer ∷ no_answer ∷ took_all asked_2 ∷ no_answer ∷ []

abbrev turn_5 : List Answer
turn_5 =
    was_waited (Some 3) ∷ was_told 250 ∷ was_readied (Readable 4) ∷ was_seen (SawBytes told_2) ∷ was_readied (Accepted 7) ∷ was_readied (Readable 7) ∷ was_seen (SawBytes client_bytes)
    ∷ no_answer ∷ took_all asked_3 ∷ no_answer ∷ []

abbrev turn_6 : List Answer
turn_6 = was_waited (Some 1) ∷ was_told 260 ∷ was_readied (Readable 4) ∷ was_seen (SawBytes told_3) ∷ []

abbrev pub meets_1 : List Deed
meets_1 = begins 4 [] ∷ hears 4 (hello 2) ∷ enters [] (input.Up 2) done ∷ says (4, to_2 wish) ∷ enters [] input.Tick done ∷ says (4, to_2 (asks_round 1)) ∷ takes 4 asked_1 ∷ []

abbrev pub stands_1 : List Deed
stands_1 =
    hears 4 told_1 ∷ comes_1 wish ∷ comes_1 (tells_round 1) ∷ enters [] input.Tick done ∷ says (4, to_2 (asks_round 2)) ∷ says (4, to_2 prepares) ∷ takes 4 asked_2 ∷ []

abbrev pub leads_1 : List Deed
leads_1 =
    hears 4 told_2 ∷ begins 7 [] ∷ hears 7 client_bytes ∷ comes_1 (tells_round 2) ∷ comes_1 promises ∷ enters (7 ∷ []) (input.Commands (a_put ∷ [])) done
    ∷ says (4, to_2 syncs) ∷ says (4, to_2 accepts) ∷ enters (7 ∷ []) (input.Read a_read) done ∷ says (4, to_2 confirms) ∷ takes 4 asked_3 ∷ []

abbrev pub decides_1 : List Deed
decides_1 = hears 4 told_3 ∷ comes_1 (accepted 0) ∷ comes_1 (accepted 1) ∷ comes_1 confirmed ∷ []

abbrev pub deeds_1 : List Deed
deeds_1 = meets_1 ++ (stands_1 ++ (leads_1 ++ decides_1))

-- ---- node 1 between its turns

-- the node, with what it stores of its part and what it keeps in memory
abbrev node_1 : Ballot → Ballot → List Entry → Volatile → Waiting → Option Reads → Standing
node_1 promised accepted items v waiting reads = record {
  kind = Votes;
  me = 1;
  state = record {
    durable = record {
      part = Some (record { conf = 1; members = two; promised = promised; accepted = accepted; base = base_bytes new_service; trimmed = 0; tail = record { items = items; room = 0 }; decided = 0 });
      closed = None;
      joining = None;
    };
    volatile = v;
    service = new_service;
    waiting = waiting;
    reads = reads;
  };
  failed = None;
  faults = 0;
}

abbrev memory : Ballot → Bool → ℕ → List Heard → Role → Volatile
memory leader flag round heard role = record {
  own = own_1;
  leader = leader;
  floor = no_ballot;
  flag = flag;
  round = round;
  heard = heard;
  role = role;
  staged = [];
  pieces = None;
  pieces_conf = 0;
}

abbrev peer_session : List ℕ → ℕ × Session
peer_session queue = (4, record { kind = Peer 2 0; frames = stream_of peer_head peer_limit []; queue = queue })

abbrev client_session : ℕ × Session
client_session = (7, record { kind = Client; frames = stream_of client_head client_limit []; queue = [] })

-- behind a turn
abbrev pump : (turn inputs last due : ℕ) → Table Session → Askers → Standing → List Deed → Pump
pump n inputs last due sessions askers node ds = record {
  at = turn;
  driver = record {
    loop = record {
      me = 1;
      peers = (2, Some 4) ∷ [];
      sessions = sessions;
      askers = askers;
      gathered = [];
      brought = [];
      behind = [];
      place = record { turn = n; at = writes_place; inputs = inputs; frames = 0 };
      lost = [];
      closes = [];
      downs = [];
      ending = false;
    };
    node = node;
    deeds = ds;
  };
  left = 10 - n;
  last = last;
  due = due;
}

abbrev reply : Heard
reply = record { from = 2; ballot = own_2; flag = false }

abbrev met : List Deed
met = begins 4 [] ∷ hears 4 (hello 2) ∷ enters [] (input.Up 2) done ∷ says (4, to_2 wish) ∷ []

abbrev heard_of : List Deed
heard_of = meets_1 ++ hears 4 told_1 ∷ comes_1 wish ∷ comes_1 (tells_round 1) ∷ []

abbrev pump_1 : Pump
pump_1 = pump 1 1 50 100 (peer_session (to_2 wish) ∷ []) map.empty (node_1 no_ballot no_ballot [] (memory no_ballot false 0 [] Idle) [] None) met

abbrev pump_2 : Pump
pump_2 = pump 2 2 100 200 (peer_session [] ∷ []) map.empty (node_1 no_ballot no_ballot [] (memory no_ballot false 1 [] Idle) [] None) meets_1

abbrev pump_3 : Pump
pump_3 = pump 3 4 150 200 (peer_session [] ∷ []) map.empty (node_1 no_ballot no_ballot [] (memory no_ballot false 1 (reply ∷ []) Idle) [] None) heard_of

abbrev pump_4 : Pump
pump_4 =
    pump 4 5 200 300 (peer_session [] ∷ []) map.empty
    (node_1 own_1 no_ballot [] (memory own_1 true 2 [] (Preparing (record { ballot = own_1; promises = []; stages = []; buffer = [] }))) [] None) (meets_1 ++ stands_1)

abbrev pump_5 : Pump
pump_5 =
    pump 5 9 250 300 (peer_session [] ∷ client_session ∷ []) (map.insert (map.insert map.empty (false, (7, 1)) 7) (true, (7, 1)) 7)
    (node_1 own_1 own_1 (entry.Command a_put ∷ [])
    (memory own_1 true 2 (reply ∷ []) (Leading (record { ballot = own_1; adopted_round = no_ballot; adopted_len = 0; synced = 2 ∷ []; acknowledged = []; reports = [] })))
    ((7, 1) ∷ []) (Some (with_read (no_reads 1 two) a_read))) (meets_1 ++ (stands_1 ++ leads_1))

-- what net and clock answer leads on
abbrev goes : List Answer → Pump → Pump
goes answers p = after (set_of o1) no_luck no_line answers p

abbrev start_1 : Pump
start_1 = started o1 (first_of 1) 0

goes_1 : goes turn_1 start_1 ≡ pump_1
unfolding drained rest shed gives after_input greeting first_frame request_in message_in peer_frame hello fits_peer encoded items_read moved frames_moved rising_read
goes_1 = refl

goes_2 : goes turn_2 pump_1 ≡ pump_2
unfolding drained rest shed gives after_input greeting first_frame request_in message_in peer_frame hello fits_peer encoded items_read moved frames_moved rising_read
goes_2 = refl

goes_3 : goes turn_3 pump_2 ≡ pump_3
unfolding drained rest shed gives after_input greeting first_frame request_in message_in peer_frame hello fits_peer encoded items_read moved frames_moved rising_read
goes_3 = refl

goes_4 : goes turn_4 pump_3 ≡ pump_4
unfolding drained rest shed gives after_input greeting first_frame request_in message_in peer_frame hello fits_peer encoded items_read moved frames_moved rising_read
goes_4 = refl

goes_5 : goes turn_5 pump_4 ≡ pump_5
unfolding drained rest shed gives after_input greeting first_frame request_in message_in peer_frame hello fits_peer encoded items_read moved frames_moved rising_read
goes_5 = refl

-- what was said before the writes of the last turn
abbrev before_1 : List Deed
before_1 = meets_1 ++ (stands_1 ++ (leads_1 ++ hears 4 told_3 ∷ []))

abbrev brings : Msg → ℕ × (ℕ × Msg)
brings m = (4, (2, m))

-- a pump that has read three messages, which it is to give to its node
abbrev has_read : Pump → List Deed → Msg → Msg → Msg → Pump
has_read p ds a b c = record {
  at = asks 1 1;
  driver = record { loop = record p.driver.loop { gathered = []; brought = brings a ∷ brings b ∷ brings c ∷ []; lost = [] }; node = p.driver.node; deeds = ds };
  left = p.left;
  last = p.last;
  due = p.due;
}

abbrev Then : List Deed → List Deed → Type 0
Then ds more = (later : List Deed) × (more ≡ ds ++ later)

-- it gives them
module _ (p : Pump) (ds : List Deed) (a b c : Msg) where
  abbrev start : State
  start = released (at_happening writes_place (has_read p ds a b c).driver)

  abbrev first : State
  first = takes_in (4 ∷ []) (input.Deliver 2 a) done start

  abbrev second : State
  second = takes_in (4 ∷ []) (input.Deliver 2 b) done first

  abbrev third : State
  third = takes_in (4 ∷ []) (input.Deliver 2 c) done second

  abbrev taken : List Taken
  taken = taken_as (4 ∷ []) (input.Deliver 2 a) done start ∷ taken_as (4 ∷ []) (input.Deliver 2 b) done first ∷ taken_as (4 ∷ []) (input.Deliver 2 c) done second ∷ []

  abbrev handed : State
  handed = handing no_luck taken third

  gives_three : Then (((ds ++ comes_1 a ∷ []) ++ comes_1 b ∷ []) ++ comes_1 c ∷ []) (after (set_of o1) no_luck no_line (no_answer ∷ []) (has_read p ds a b c)).driver.deeds
  gives_three =
      (each says (frames_after_all taken third.loop) ++ (grown handed).added, (grown handed).deeds ∙ append_assoc third.deeds (each says (frames_after_all taken third.loop)) (grown handed).added)

after_more : (xs ys : List Answer) (p : Pump) → after (set_of o1) no_luck no_line (xs ++ ys) p ≡ after (set_of o1) no_luck no_line ys (after (set_of o1) no_luck no_line xs p)
after_more [] ys p = refl
after_more (x ∷ xs) ys p = after_more xs ys (shut (set_of o1) no_luck no_line (answered (set_of o1) no_luck no_line x p))

-- such a pump it is, by its parts
is_read : (p : Pump) (ds : List Deed) (a b c : Msg) → p.at ≡ asks 1 1 → p.driver.deeds ≡ ds → p.driver.loop.gathered ≡ [] → p.driver.loop.brought ≡ brings a ∷ brings b ∷ brings c ∷ []
    → p.driver.loop.lost ≡ [] → p ≡ has_read p ds a b c
is_read p ds a b c at deeds gathered brought lost =
    ap (λ x. record p { at = x }) at ∙ ap (λ x. record p { at = asks 1 1; driver = record p.driver { deeds = x } }) deeds
    ∙ ap (λ x. record p { at = asks 1 1; driver = record p.driver { deeds = ds; loop = record p.driver.loop { gathered = x } } }) gathered
    ∙ ap (λ x. record p { at = asks 1 1; driver = record p.driver { deeds = ds; loop = record p.driver.loop { gathered = []; brought = x } } }) brought
    ∙ ap (λ x. record p { at = asks 1 1; driver = record p.driver { deeds = ds; loop = record p.driver.loop { gathered = []; brought = brings a ∷ brings b ∷ brings c ∷ []; lost = x } } }) lost

abbrev last_1 : Pump
last_1 = goes turn_6 pump_5

at_is : last_1.at ≡ asks 1 1
unfolding drained rest shed gives after_input greeting first_frame request_in message_in peer_frame hello fits_peer encoded items_read moved frames_moved rising_read
at_is = refl

deeds_are : last_1.driver.deeds ≡ before_1
unfolding drained rest shed gives after_input greeting first_frame request_in message_in peer_frame hello fits_peer encoded items_read moved frames_moved rising_read
deeds_are = refl

gathered_is : last_1.driver.loop.gathered ≡ []
unfolding drained rest shed gives after_input greeting first_frame request_in message_in peer_frame hello fits_peer encoded items_read moved frames_moved rising_read
gathered_is = refl

brought_is : last_1.driver.loop.brought ≡ brings (accepted 0) ∷ brings (accepted 1) ∷ brings confirmed ∷ []
unfolding drained rest shed gives after_input greeting first_frame request_in message_in peer_frame hello fits_peer encoded items_read moved frames_moved rising_read
brought_is = refl

lost_is : last_1.driver.loop.lost ≡ []
unfolding drained rest shed gives after_input greeting first_frame request_in message_in peer_frame hello fits_peer encoded items_read moved frames_moved rising_read
lost_is = refl

abbrev last_read : Pump
last_read = has_read last_1 before_1 (accepted 0) (accepted 1) confirmed

last_is : last_1 ≡ last_read
last_is = is_read last_1 before_1 (accepted 0) (accepted 1) confirmed at_is deeds_are gathered_is brought_is lost_is

-- turn by turn
turn_by_turn : (p q : Pump) (xs ys : List Answer) → goes xs p ≡ q → goes (xs ++ ys) p ≡ goes ys q
turn_by_turn p q xs ys e = after_more xs ys p ∙ ap (goes ys) e

abbrev from_6 : List Answer
from_6 = turn_6 ++ no_answer ∷ []

abbrev from_5 : List Answer
from_5 = turn_5 ++ from_6

abbrev from_4 : List Answer
from_4 = turn_4 ++ from_5

abbrev from_3 : List Answer
from_3 = turn_3 ++ from_4

abbrev from_2 : List Answer
from_2 = turn_2 ++ from_3

abbrev all_1 : List Answer
all_1 = turn_1 ++ from_2

-- answers that fit, one part after the other
abbrev Fit : List Answer → Pump → Type 0
Fit answers p = Answers (set_of o1) no_luck no_line answers p

fit_more : (xs ys : List Answer) (p q : Pump) → goes xs p ≡ q → Fit xs p → Fit ys q → Fit (xs ++ ys) p
fit_more [] ys p q e f g = subst (Fit ys) (sym e) g
fit_more (x ∷ xs) ys p q e f g = (f.0, fit_more xs ys (shut (set_of o1) no_luck no_line (answered (set_of o1) no_luck no_line x p)) q e f.1 g)

fit_1_1 : Fit turn_1 start_1
unfolding drained rest shed gives after_input greeting first_frame request_in message_in peer_frame hello fits_peer encoded items_read moved frames_moved rising_read
fit_1_1 = (omega arith, (tt, (tt, (tt, ((omega arith, omega arith, are_bytes (hello 2) refl), (tt, (tt, (tt, tt))))))))

fit_2_1 : Fit turn_2 pump_1
unfolding drained rest shed gives after_input greeting first_frame request_in message_in peer_frame hello fits_peer encoded items_read moved frames_moved rising_read
fit_2_1 = (omega arith, (tt, (tt, (tt, (tt, ((omega arith, omega arith), (tt, tt)))))))

fit_3_1 : Fit turn_3 pump_2
unfolding drained rest shed gives after_input greeting first_frame request_in message_in peer_frame hello fits_peer encoded items_read moved frames_moved rising_read
fit_3_1 = (omega arith, (tt, (tt, ((omega arith, omega arith, are_bytes told_1 refl), (tt, (tt, tt))))))

fit_4_1 : Fit turn_4 pump_3
unfolding drained rest shed gives after_input greeting first_frame request_in message_in peer_frame hello fits_peer encoded items_read moved frames_moved rising_read
fit_4_1 = (omega arith, (tt, (tt, (tt, (tt, ((omega arith, omega arith), (tt, tt)))))))

fit_5_1 : Fit turn_5 pump_4
unfolding drained rest shed gives after_input greeting first_frame request_in message_in peer_frame hello fits_peer encoded items_read moved frames_moved rising_read
fit_5_1 = (omega arith, (tt, (tt, ((omega arith, omega arith, are_bytes told_2 refl), (tt, (tt, ((omega arith, omega arith, are_bytes client_bytes refl), (tt, ((omega arith, omega arith), (tt, tt))))))))))

fit_6_1 : Fit from_6 pump_5
unfolding drained rest shed gives after_input greeting first_frame request_in message_in peer_frame hello fits_peer encoded items_read moved frames_moved rising_read
fit_6_1 = (omega arith, (tt, (tt, ((omega arith, omega arith, are_bytes told_3 refl), (tt, tt)))))

fit_1 : Fit all_1 start_1
fit_1 =
    fit_more turn_1 from_2 start_1 pump_1 goes_1 fit_1_1 (fit_more turn_2 from_3 pump_1 pump_2 goes_2 fit_2_1 (fit_more turn_3 from_4 pump_2 pump_3 goes_3 fit_3_1
    (fit_more turn_4 from_5 pump_3 pump_4 goes_4 fit_4_1 (fit_more turn_5 from_6 pump_4 pump_5 goes_5 fit_5_1 fit_6_1))))

three : Then deeds_1 (goes (no_answer ∷ []) last_read).driver.deeds
three = gives_three last_1 before_1 (accepted 0) (accepted 1) confirmed

all_is : goes all_1 start_1 ≡ goes (no_answer ∷ []) last_read
all_is =
    turn_by_turn start_1 pump_1 turn_1 from_2 goes_1 ∙ turn_by_turn pump_1 pump_2 turn_2 from_3 goes_2 ∙ turn_by_turn pump_2 pump_3 turn_3 from_4 goes_3
    ∙ turn_by_turn pump_3 pump_4 turn_4 from_5 goes_4 ∙ turn_by_turn pump_4 pump_5 turn_5 from_6 goes_5 ∙ turn_by_turn pump_5 last_read turn_6 (no_answer ∷ []) last_is

are_1 : (goes all_1 start_1).driver.deeds ≡ deeds_1 ++ three.0
are_1 = ap (λ (p : Pump). p.driver.deeds) all_is ∙ three.1

pub serves_1 : Serves (first_of 1) deeds_1
serves_1 = record {
  settings = o1;
  peers = peers_1;
  line = no_line;
  luck = no_luck;
  start = 0;
  answers = all_1;
  fit = fit_1;
  later = three.0;
  are = are_1;
}
