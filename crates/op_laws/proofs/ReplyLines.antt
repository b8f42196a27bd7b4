-- Commands that come together and are decided at once, nothing else with them: each client gets one reply for each number.
use Rattle.std.proofs.Common.{◌≡◌, ℕ, Bool, true, false, cond, not, ◌||◌, map, List, [], ◌∷◌, ◌++◌, fold, sym, ap, ap₂, ◌∙◌, subst, append_assoc, append-nil, ⊎_elim}
use Rattle.std.proofs.lemmas.Bool.{cases_Bool, and_parts, eqb-true}
use Rattle.std.proofs.lemmas.List.{map-append}
use Rattle.std.proofs.lemmas.List.Sums.{fold-append}
use Rattle.op_types.specs.declared.answers.Reply.{Reply}
use Rattle.op_types.specs.declared.log.Command.{Command}
use Rattle.op_types.specs.declared.log.Entry.{Entry}
use Rattle.op_types.specs.declared.log.Entry.TheVariants as entry
use Rattle.op_runs.specs.declared.summary.Line.{Line}
use Rattle.op_runs.specs.declared.summary.Line.TheVariants as line
use Rattle.op_spec.specs.Service.{Service, new_service, service_with, service_after, service_of, answer_of}
use Rattle.op_protocol.specs.State.{Waiting}
use Rattle.op_protocol.specs.Serving.{waits, without_waiting, waiting_with, reply_of, Served, serving_command, serving_entry, serving}
use Rattle.op_protocol.specs.Rows.{entries_of, waiting_each}
use Rattle.op_runs.specs.World.{answer_line}
use Rattle.op_refinement.proofs.View.{Each}
use Rattle.op_laws.specs.Alone.{is_asked, reply_lines}
use Rattle.op_laws.proofs.Served.{is_reply}
use Rattle.op_laws.proofs.WaitingOnce.{Rises, left_rises, each_rises, waits_no_longer, others_wait}
use Rattle.op_laws.proofs.WaitingSets.{are_same, waits_with, each_waits}

-- the reply's line
abbrev pub line_of : ℕ → Reply → Line
line_of pid r = answer_line pid r.client r.seq r.answer

-- who proposed the command waits, unless one with its client and number has come before
abbrev pub WaitsAfter : Waiting → List Command → Command → Type 0
WaitsAfter ws before c = waits ws c.client c.seq ≡ not (is_asked before c)

-- once one more is answered, the others wait as that says
waits_one : (ws : Waiting) (before : List Command) (c d : Command) → Rises ws → WaitsAfter ws before d → WaitsAfter (without_waiting ws c.client c.seq) (c ∷ before) d
waits_one ws before c d rises k =
    ⊎_elim
    (λ (e : are_same c.client c.seq d.client d.seq ≡ true).
    let x = and_parts _ _ e in
    ap₂ (λ (u v : ℕ). waits (without_waiting ws c.client c.seq) u v) (sym (eqb-true c.client d.client x.0)) (sym (eqb-true c.seq d.seq x.1)) ∙ waits_no_longer ws c.client c.seq rises
    ∙ sym (ap (λ (b : Bool). not (b || is_asked before d)) e))
    (λ (e : are_same c.client c.seq d.client d.seq ≡ false). others_wait ws c.client c.seq d.client d.seq e ∙ k ∙ sym (ap (λ (b : Bool). not (b || is_asked before d)) e))
    (cases_Bool (are_same c.client c.seq d.client d.seq))

waits_more : (ws : Waiting) (before : List Command) (c : Command) (cs : List Command) → Rises ws → Each (WaitsAfter ws before) cs → Each (WaitsAfter (without_waiting ws c.client c.seq) (c ∷ before)) cs
waits_more ws before c [] rises k = tt
waits_more ws before c (d ∷ cs) rises k = (waits_one ws before c d rises k.0, waits_more ws before c cs rises k.1)

module _ (pid : ℕ) where
  -- what one command adds
  abbrev One : Service → List Command → Command → List Line
  One s before c = cond (is_asked before c) [] (line.Reply pid c.client c.seq (answer_of s c) ∷ [])

  one_told : (past : List Entry) (t : Served) (before : List Command) (c : Command) → t.service ≡ service_of past → WaitsAfter t.waiting before c → map (line_of pid) (serving_command t c).replies ≡ map (line_of pid) t.replies ++ One t.service before c
  one_told past t before c serves k =
      let reply : line_of pid (reply_of t.service c) ≡ line.Reply pid c.client c.seq (answer_of t.service c) =
      subst (λ (s : Service). line_of pid (reply_of s c) ≡ line.Reply pid c.client c.seq (answer_of s c)) (sym serves) (is_reply pid past c) in
      ap (λ (b : Bool). map (line_of pid) (cond b (t.replies ++ reply_of t.service c ∷ []) t.replies)) k ∙ by_asked (is_asked before c) reply
    where
      by_asked : (b : Bool) → line_of pid (reply_of t.service c) ≡ line.Reply pid c.client c.seq (answer_of t.service c)
          → map (line_of pid) (cond (not b) (t.replies ++ reply_of t.service c ∷ []) t.replies) ≡ map (line_of pid) t.replies ++ cond b [] (line.Reply pid c.client c.seq (answer_of t.service c) ∷ [])
      by_asked true reply = sym (append-nil (map (line_of pid) t.replies))
      by_asked false reply = map-append (line_of pid) t.replies (reply_of t.service c ∷ []) ∙ ap (λ (l : Line). map (line_of pid) t.replies ++ l ∷ []) reply

  all_told : (past : List Entry) (t : Served) (before cs : List Command) → t.service ≡ service_of past → Rises t.waiting → Each (WaitsAfter t.waiting before) cs
      → map (line_of pid) (fold serving_entry t (entries_of cs)).replies ≡ map (line_of pid) t.replies ++ reply_lines pid t.service before cs
  all_told past t before [] serves rises k = sym (append-nil (map (line_of pid) t.replies))
  all_told past t before (c ∷ cs) serves rises k =
      let next : service_with t.service c ≡ service_of (past ++ entry.Command c ∷ []) = ap (λ (s : Service). service_with s c) serves ∙ sym (fold-append service_after new_service past (entry.Command c ∷ [])) in
      let rest = all_told (past ++ entry.Command c ∷ []) (serving_command t c) (c ∷ before) cs next (left_rises t.waiting c.client c.seq rises) (waits_more t.waiting before c cs rises k.1) in
      let more : List Line = reply_lines pid (service_with t.service c) (c ∷ before) cs in
      rest ∙ ap (λ (ls : List Line). ls ++ more) (one_told past t before c serves k.0) ∙ append_assoc (map (line_of pid) t.replies) (One t.service before c) more

-- all of them wait once they have come
all_wait : (ws : Waiting) (cs : List Command) → Each (WaitsAfter (waiting_each ws cs) []) cs
all_wait ws [] = tt
all_wait ws (c ∷ cs) = (each_waits (waiting_with ws c) cs c.client c.seq (waits_with ws c), all_wait (waiting_with ws c) cs)

-- they are told so, where those that waited before stand in order
pub told_alone : (pid : ℕ) (s : Service) (past : List Entry) (ws : Waiting) (cs : List Command) → s ≡ service_of past → Rises ws → map (line_of pid) (serving s (waiting_each ws cs) (entries_of cs)).replies ≡ reply_lines pid s [] cs
told_alone pid s past ws cs serves rises = all_told pid past (record { service = s; waiting = waiting_each ws cs; replies = [] }) [] cs serves (each_rises ws cs rises) (all_wait ws cs)
