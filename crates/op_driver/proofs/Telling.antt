-- What steps answer tells what came of their inputs, so what is counted and handed out by it is what the definition
-- says of them.
use Rattle.std.proofs.Common.{◌≡◌, ◌==◌, ◌++◌, ◌∷◌, [], ℕ, Bool, true, false, ◌||◌, List, length, if◌then◌else◌, is_some, IfSome, Option, Some, None, Ok, Err, refl, sym, ◌∙◌, ap, subst, inl, inr, arith}
use Rattle.std.specs.Prelude.{reverse}
use Rattle.std.proofs.lemmas.Bool.{cases_Bool}
use Rattle.std.proofs.lemmas.List.{reverse-append, reverse-reverse, length-reverse}
use Rattle.op_types.specs.declared.answers.Outcome.{Outcome}
use Rattle.op_types.specs.declared.answers.Refusal.{Refusal}
use Rattle.op_types.specs.declared.answers.Refusal.TheVariants.{StorageFailed}
use Rattle.op_types.specs.declared.durable.Durable.{Durable}
use Rattle.op_types.specs.declared.events.Input.{Input}
use Rattle.op_serving.specs.declared.node.StepFail.TheVariants.{DiskFail, Damaged, NoMemory}
use Rattle.op_serving.specs.declared.wanted.Wanted.{Wanted}
use Rattle.op_serving.specs.Cores.{Standing, gives, given_again}
use Rattle.op_serving.specs.Fates as fates
use Rattle.op_serving.specs.Fates.{Fate, done, finds, faults, shares, damaged, lost, broke_by, after_fate, IsTogether, MayComeAll, Tells, TellAll}
use Rattle.op_serving.specs.Handing.{handed_out, proposed, asked, is_read, keys_that_wait, said_at_once, told_all, excused, said_of_denial, given_up}
use Rattle.op_serving.specs.Losses.{settled, Does}
use Rattle.op_serving.specs.Ranges.{WantedInRange}
use Rattle.op_serving.specs.State.{Loop}
use Rattle.op_serving.specs.Inputs.{Brought, asked_by, loop_taking, loop_after, loop_after_all}
use Rattle.op_queues.specs.Gathering.{AskWithLast}
use Rattle.op_driver.specs.Answering.{Answer, is_lost, counting, counting_all, is_fault, given_up_unless, answered, if_last, answered_all}
use Rattle.op_queues.proofs.Asking.{blind_asked}
use Rattle.op_queues.proofs.Failing.{blind_given_up}
use Rattle.op_queues.proofs.Sending.{blind_told_all, blind_handed}
use Rattle.op_queues.proofs.Settling.{Blind, blind_then, does_nothing, does_then, does_as}
use Rattle.op_driver.proofs.Calm.{apart}
use Rattle.op_driver.proofs.Taking.{Entry, brought_of, came_of, taken_of, loop_taken}

-- ---- one input

-- it is counted as its fate says
pub counting_is : (r : Answer) (n : Standing) (i : Input) (f : Fate) (s : Loop) → Tells r n i f → counting r s ≡ loop_taking f s
counting_is r n i f s t = grind arith

lost_told : (r : Answer) (n : Standing) (i : Input) (f : Fate) → Tells r n i f → is_lost r ≡ fates.is_lost f
lost_told r n i f t = grind arith

again_is : (w : Option Wanted) (n : Standing) (d : Durable) (s : Loop) → handed_out (given_again n d) (proposed w (given_again n d).outcome s) ≡ handed_out (given_again n d) (proposed w None s)
unfolding given_again
again_is w n d s = refl

-- what it gives out is handed out as its fate says, where this is so of a fault before it
pub answered_is : (w : Option Wanted) (b : Option ℕ) (r : Answer) (n : Standing) (i : Input) (f : Fate) (s : Loop) → Tells r n i f → IsTogether b f → answered w (is_some b) r s ≡ loop_after w i f n s
answered_is w b (Ok given) n i done s t one = ap (λ g. handed_out g (proposed w g.outcome s)) t
answered_is w b (Ok given) n i (finds d) s t one = ap (λ g. handed_out g (proposed w g.outcome s)) t ∙ again_is w n d s
answered_is w None (Err (DiskFail k)) n i (faults j) s t one = ap (λ x. excused w (Some (StorageFailed x)) (given_up x s)) t
answered_is w (Some m) (Err (DiskFail k)) n i (faults j) s t one = absurd (let x = one in cc)
answered_is w None (Err (DiskFail k)) n i (shares j) s t one = absurd one
answered_is w (Some m) (Err (DiskFail k)) n i (shares j) s t one = ap (λ x. excused w (Some (StorageFailed x)) s) t
answered_is w b (Err Damaged) n i damaged s t one = refl
answered_is w b (Err NoMemory) n i lost s t one = refl
answered_is w b r n i f s t one = absurd t

-- whether one behind it comes behind a fault
fault_told : (b : Option ℕ) (r : Answer) (n : Standing) (i : Input) (f : Fate) → Tells r n i f → IsTogether b f → (is_some b || is_fault r) ≡ is_some (broke_by b f)
fault_told (Some j) r n i f t one = refl
fault_told None r n i f t one = grind arith

-- ---- several

none_came : (zs : List Entry) → came_of zs ≡ [] → zs ≡ []
none_came [] e = refl
none_came (z ∷ zs) e = absurd (let k = e in cc)

pub counting_all_is : (rs : List Answer) (n : Standing) (b : Option ℕ) (zs : List Entry) (s : Loop) → TellAll rs n (came_of zs) → MayComeAll n b (came_of zs) → counting_all rs s ≡ loop_taken zs s
counting_all_is [] n b [] s t may = refl
counting_all_is [] n b (z ∷ zs) s t may = absurd (let k = t in cc)
counting_all_is (r ∷ rs) n b [] s t may = absurd t
counting_all_is (r ∷ rs) n b (z ∷ zs) s t may =
    let one : counting r s ≡ loop_taking z.1 s = counting_is r n z.0.1 z.1 s t.0 in
    let goes = λ (b : Bool). if b then counting r s else counting_all rs (counting r s) in
    elim (cases_Bool (is_lost r)) [
      | inl h ↦ ap goes h ∙ (one ∙ ap (λ ys. loop_taken ys (loop_taking z.1 s)) (sym (none_came zs (may.2 (sym (lost_told r n z.0.1 z.1 t.0) ∙ h)))))
      | inr h ↦ ap goes h ∙ (ap (counting_all rs) one ∙ counting_all_is rs (after_fate n z.0.1 z.1) (broke_by b z.1) zs (loop_taking z.1 s) t.1 may.3)
    ]

pub answered_all_is : (w : Option Wanted) (rs : List Answer) (n : Standing) (b : Option ℕ) (zs : List Entry) (s : Loop) → TellAll rs n (came_of zs) → MayComeAll n b (came_of zs) → AskWithLast (brought_of zs) w → answered_all w (is_some b) rs s ≡ loop_after_all (taken_of zs n) s
answered_all_is w [] n b [] s t may asks = refl
answered_all_is w [] n b (z ∷ zs) s t may asks = absurd (let k = t in cc)
answered_all_is w (r ∷ rs) n b [] s t may asks = absurd t
answered_all_is w (r ∷ []) n b (z ∷ []) s t may asks = ap (λ x. answered x (is_some b) r s) asks ∙ answered_is (asked_by z.0.0 z.0.1) b r n z.0.1 z.1 s t.0 may.1
answered_all_is w (r ∷ q ∷ rs) n b (z ∷ []) s t may asks = absurd t.1
answered_all_is w (r ∷ []) n b (z ∷ y ∷ zs) s t may asks = absurd (let k = t.1 in cc)
answered_all_is w (r ∷ q ∷ rs) n b (z ∷ y ∷ zs) s t may asks =
    let a : Option Wanted = asked_by z.0.0 z.0.1 in
    ap (λ o. answered_all w o (q ∷ rs) (answered None (is_some b) r s)) (fault_told b r n z.0.1 z.1 t.0 may.1)
    ∙ ap (λ x. answered_all w (is_some (broke_by b z.1)) (q ∷ rs) (answered x (is_some b) r s)) (sym asks.0)
    ∙ ap (answered_all w (is_some (broke_by b z.1)) (q ∷ rs)) (answered_is a b r n z.0.1 z.1 s t.0 may.1)
    ∙ answered_all_is w (q ∷ rs) (after_fate n z.0.1 z.1) (broke_by b z.1) (y ∷ zs) (loop_after a z.0.1 z.1 n s) t.1 may.3 asks.1

-- ---- what is asked for with those that are left

-- with all but the last nothing
pub asked_before : (bs : List Brought) (b : Brought) (left : List Brought) (w : Option Wanted) → AskWithLast (bs ++ b ∷ left) w → AskWithLast bs None
asked_before [] b left w h = refl
asked_before (c ∷ []) b left w h = sym h.0
asked_before (c ∷ d ∷ bs) b left w h = (h.0, asked_before (d ∷ bs) b left w h.1)

pub asked_behind : (bs : List Brought) (b : Brought) (left : List Brought) (w : Option Wanted) → AskWithLast (bs ++ b ∷ left) w → AskWithLast (b ∷ left) w
asked_behind [] b left w h = h
asked_behind (c ∷ []) b left w h = h.1
asked_behind (c ∷ d ∷ bs) b left w h = asked_behind (d ∷ bs) b left w h.1

-- ---- what is handed out leaves all that a loss reads

pub blind_same : Blind (λ (s : Loop). s)
blind_same = record { lost = λ s. refl; place = λ s. refl; opens = λ c s. refl; past = λ c s. refl }

blind_proposed : (w : Option Wanted) (o : Option Outcome) → Blind (proposed w o)
blind_proposed None o = blind_same
blind_proposed (Some w) o = blind_then (asked (is_read w) (keys_that_wait w o)) (told_all (said_at_once w o)) (blind_asked (is_read w) (keys_that_wait w o)) (blind_told_all (said_at_once w o))

pub blind_excused : (w : Option Wanted) (why : Option Refusal) → Blind (excused w why)
blind_excused None why = blind_same
blind_excused (Some w) why = blind_told_all (said_of_denial w why)

blind_given_up_unless : (b : Bool) (k : ℕ) → Blind (given_up_unless b k)
blind_given_up_unless true k = blind_same
blind_given_up_unless false k = blind_given_up k

blind_answered : (w : Option Wanted) (b : Bool) (r : Answer) → Blind (answered w b r)
blind_answered w b (Ok given) = blind_then (proposed w given.outcome) (handed_out given) (blind_proposed w given.outcome) (blind_handed given)
blind_answered w b (Err (DiskFail k)) = blind_then (given_up_unless b k) (excused w (Some (StorageFailed k))) (blind_given_up_unless b k) (blind_excused w (Some (StorageFailed k)))
blind_answered w b (Err Damaged) = blind_same
blind_answered w b (Err NoMemory) = blind_excused w None

pub blind_after : (a : Option Wanted) (i : Input) (f : Fate) (n : Standing) → Blind (loop_after a i f n)
blind_after a i done n = blind_then (proposed a (gives n i).outcome) (handed_out (gives n i)) (blind_proposed a (gives n i).outcome) (blind_handed (gives n i))
blind_after a i (finds d) n = blind_then (proposed a None) (handed_out (given_again n d)) (blind_proposed a None) (blind_handed (given_again n d))
blind_after a i (faults k) n = blind_then (given_up k) (excused a (Some (StorageFailed k))) (blind_given_up k) (blind_excused a (Some (StorageFailed k)))
blind_after a i (shares k) n = blind_excused a (Some (StorageFailed k))
blind_after a i damaged n = blind_same
blind_after a i lost n = blind_excused a None

-- ---- handed out one after the other

-- what a fault gives out
pub answered_fault : (w : Option Wanted) (b : Bool) (r : Answer) (k : ℕ) {s m t : Loop} → r ≡ Err (DiskFail k) → Does (λ ms x. settled ms (given_up_unless b k x)) s m → Does (λ ms x. settled ms (excused w (Some (StorageFailed k)) x)) m t → Does (λ ms x. settled ms (answered w b r x)) s t
answered_fault w b r k {s} {m} {t} is first second =
    subst (λ (y : Answer). Does (λ ms x. settled ms (answered w b y x)) s t) (sym is) (does_then (given_up_unless b k) (excused w (Some (StorageFailed k))) (blind_excused w (Some (StorageFailed k))) first second)

-- some of these answers were handed out, and these are left, the last first
pub record HandsOut (w : Option Wanted) (rs : List Answer) (v : Option Wanted) (failed : Bool) (left : List Answer) (s t : Loop) : Type 0 where
  pub so_far : Loop → Loop
  pub does : Does (λ ms x. settled ms (so_far x)) s t
  pub is : (x : Loop) → answered_all w false rs x ≡ answered_all v failed (reverse left) (so_far x)

pub hands_none : (w : Option Wanted) {rs left : List Answer} {s : Loop} → left ≡ reverse rs → HandsOut w rs w false left s s
hands_none w {rs} {left} {s} is = record {
  so_far = λ x. x;
  does = does_nothing (λ x. x) s refl;
  is = λ x. ap (λ l. answered_all w false l x) (sym (ap reverse is ∙ reverse-reverse rs));
}

-- what is asked for with the next one, and with those behind it
if_last_is : (rs : List Answer) (w : Option Wanted) → if_last rs w ≡ (if length rs == 0 then w else None)
if_last_is [] w = refl
if_last_is (r ∷ rs) w = sym (ap (λ b. if b then w else None) (apart (length (r ∷ rs)) 0 (λ e. omega (arith, e))))

last_of : (left : List Answer) (w : Option Wanted) → if_last (reverse left) w ≡ (if length left == 0 then w else None)
last_of left w = if_last_is (reverse left) w ∙ ap (λ n. if n == 0 then w else None) (length-reverse left)

later_of : (left : List Answer) (v z : Option Wanted) (b : Bool) → z ≡ (if length left == 0 then None else v) → (x : Loop) → answered_all v b (reverse left) x ≡ answered_all z b (reverse left) x
later_of [] v z b e x = refl
later_of (r ∷ left) v z b e x = ap (λ o. answered_all o b (reverse (r ∷ left)) x) (sym (e ∙ ap (λ c. if c then None else v) (apart (length (r ∷ left)) 0 (λ e. omega (arith, e)))))

-- one more
pub hands_more : (r : Answer) {w v a z : Option Wanted} {rs left before : List Answer} {failed now : Bool} {s m t : Loop} → HandsOut w rs v failed before s m → before ≡ left ++ r ∷ []
    → a ≡ (if length left == 0 then v else None) → z ≡ (if length left == 0 then None else v) → now ≡ (failed || is_fault r) → Does (λ ms x. settled ms (answered a failed r x)) m t → HandsOut w rs z now left s t
hands_more r {w} {v} {a} {z} {rs} {left} {before} {failed} {now} h split a_is z_is now_is d = record {
  so_far = λ x. answered a failed r (h.so_far x);
  does = does_then h.so_far (answered a failed r) (blind_answered a failed r) h.does d;
  is = λ x.
      h.is x
      ∙ ap (λ l. answered_all v failed l (h.so_far x)) (ap reverse split ∙ reverse-append left (r ∷ []))
      ∙ ap (λ b. answered_all v b (reverse left) (answered (if_last (reverse left) v) failed r (h.so_far x))) (sym now_is)
      ∙ ap (λ o. answered_all v now (reverse left) (answered o failed r (h.so_far x))) (last_of left v ∙ sym a_is)
      ∙ later_of left v z now z_is (answered a failed r (h.so_far x));
}

pub hands_all : {w v : Option Wanted} {rs left : List Answer} {failed : Bool} {s t : Loop} → HandsOut w rs v failed left s t → left ≡ [] → Does (λ ms x. settled ms (answered_all w false rs x)) s t
hands_all {w} {v} {rs} {left} {failed} {s} h none = does_as h.so_far (answered_all w false rs) (sym (h.is s ∙ ap (λ l. answered_all v failed (reverse l) (h.so_far s)) none)) h.does

-- what is asked for with those that are left is in range
pub range_if : (b : Bool) (w : Option Wanted) {v : Option Wanted} → v ≡ (if b then None else w) → IfSome w WantedInRange → IfSome v WantedInRange
range_if true w e h = subst (λ o. IfSome o WantedInRange) (sym e) tt
range_if false w e h = subst (λ o. IfSome o WantedInRange) (sym e) h
