use Rattle.std.proofs.Common.{◌≡◌, ◌+◌, ◌-◌, length, take, drop, ℕ, List, ◌++◌, sym, ap, ◌∙◌, subst, length-append, arith}
use Rattle.std.specs.Prelude.{min}
use Rattle.std.proofs.lemmas.List.{length-take, length-drop}
use Rattle.op_types.specs.declared.changes.Change.{Change}
use Rattle.op_types.specs.declared.log.Entry.{Entry}
use Rattle.op_types.specs.Changes.{part_with}
use Rattle.op_protocol.specs.Parts.{part_after}
use Rattle.op_deciding.specs.Deciding.{Continues}
use Rattle.op_deciding.proofs.Slices.{take_both, slice_joined, slice_behind}
use Rattle.op_deciding.proofs.Decided.{log_after, last_log, continued_ok, served_ok, counted_ok, log_stays}
use Rattle.op_deciding.proofs.deciding.+serve_between.Goals as goal

pub returns-in_ok-len-in-CutTo-clause-served : goal.returns-in_ok-len-in-CutTo-clause-served
returns-in_ok-len-in-CutTo-clause-served t c =
    let p = c.args.log.part.now in
    let batch = c.args.log.batch.now in
    let before = take (length batch - 1) batch in
    let q = part_after p before in
    let start = c.args.slice.start in
    let end = c.args.slice.end in
    let kept : c.index-kept.result ≡ c.in-CutTo.len - q.trimmed = c.index-kept.ensures ∙ ap (λ (n : ℕ). c.in-CutTo.len - n) c.trimmed_after.ensures in
    let log : log_after p batch ≡ take (c.in-CutTo.len - q.trimmed) (log_after p before) =
    last_log p batch c.last-item.result c.in-len1-up.len_at_least c.last-item.is ∙ ap (λ (d : Change). (part_with q d).tail.items) c.in-CutTo.is in
    let stop : c.min-end.result ≡ min end (c.in-CutTo.len - q.trimmed) = c.min-end.ensures ∙ ap (λ (n : ℕ). min end n) kept in
    let same : drop start (take c.min-end.result (log_after p before)) ≡ drop start (take end (log_after p batch)) =
    ap (λ (n : ℕ). drop start (take n (log_after p before))) stop ∙ ap (λ (es : List Entry). drop start es) (sym (take_both end (c.in-CutTo.len - q.trimmed) (log_after p before)))
    ∙ ap (λ (es : List Entry). drop start (take end es)) (sym log) in
    subst (λ (es : List Entry). Continues c.args.service.now.service c.args.served.now c.serve_between.new.served es) same c.in_ok-len-in-CutTo.ensures.served

pub returns-in_ok-len-in-CutTo-clause-len : goal.returns-in_ok-len-in-CutTo-clause-len
returns-in_ok-len-in-CutTo-clause-len t c =
    let p = c.args.log.part.now in
    let batch = c.args.log.batch.now in
    let before = take (length batch - 1) batch in
    let q = part_after p before in
    let start = c.args.slice.start in
    let end = c.args.slice.end in
    let kept : c.index-kept.result ≡ c.in-CutTo.len - q.trimmed = c.index-kept.ensures ∙ ap (λ (n : ℕ). c.in-CutTo.len - n) c.trimmed_after.ensures in
    let log : log_after p batch ≡ take (c.in-CutTo.len - q.trimmed) (log_after p before) =
    last_log p batch c.last-item.result c.in-len1-up.len_at_least c.last-item.is ∙ ap (λ (d : Change). (part_with q d).tail.items) c.in-CutTo.is in
    let len : length (log_after p batch) ≡ min (c.in-CutTo.len - q.trimmed) (length (log_after p before)) = ap length log ∙ length-take (c.in-CutTo.len - q.trimmed) (log_after p before) in
    let least : c.min.result ≡ min c.in_ok-len-in-CutTo.len (c.in-CutTo.len - q.trimmed) = c.min.ensures ∙ ap (λ (n : ℕ). min c.in_ok-len-in-CutTo.len n) kept in
    let there = c.in_ok-len-in-CutTo.ensures.len in
    omega arith

pub returns-in_ok-len-in-Append-clause-served : goal.returns-in_ok-len-in-Append-clause-served
returns-in_ok-len-in-Append-clause-served t c =
    let p = c.args.log.part.now in
    let batch = c.args.log.batch.now in
    let before = take (length batch - 1) batch in
    let q = part_after p before in
    let start = c.args.slice.start in
    let end = c.args.slice.end in
    let log : log_after p batch ≡ log_after p before ++ c.in-Append.entries =
    last_log p batch c.last-item.result c.in-len1-up.len_at_least c.last-item.is ∙ ap (λ (d : Change). (part_with q d).tail.items) c.in-Append.is in
    let xs = log_after p before in
    let len = c.in_ok-len-in-Append.ensures.len in
    let slice : drop (start - c.in_ok-len-in-Append.len) (take (end - c.in_ok-len-in-Append.len) c.as_slice.result.now) ≡ drop (start - length xs) (take (end - length xs) c.in-Append.entries) =
    ap (λ (n : ℕ). drop (start - n) (take (end - n) c.as_slice.result.now)) len ∙ ap (λ (es : List Entry). drop (start - length xs) (take (end - length xs) es)) c.as_slice.ensures in
    let whole : drop start (take end xs) ++ drop (start - c.in_ok-len-in-Append.len) (take (end - c.in_ok-len-in-Append.len) c.as_slice.result.now) ≡ drop start (take end (log_after p batch)) =
    ap (λ (es : List Entry). drop start (take end xs) ++ es) slice ∙ sym (slice_joined start end xs c.in-Append.entries) ∙ ap (λ (es : List Entry). drop start (take end es)) (sym log) in
    continued_ok c.serve_appended.result _ _ _ _ _ _ _ whole c.in_ok-len-in-Append.ensures.served c.serve_appended.ensures.served

pub returns-in_ok-len-in-Append-clause-len : goal.returns-in_ok-len-in-Append-clause-len
returns-in_ok-len-in-Append-clause-len t c =
    let p = c.args.log.part.now in
    let batch = c.args.log.batch.now in
    let before = take (length batch - 1) batch in
    let q = part_after p before in
    let start = c.args.slice.start in
    let end = c.args.slice.end in
    let log : log_after p batch ≡ log_after p before ++ c.in-Append.entries =
    last_log p batch c.last-item.result c.in-len1-up.len_at_least c.last-item.is ∙ ap (λ (d : Change). (part_with q d).tail.items) c.in-Append.is in
    let whole : length (log_after p batch) ≡ length (log_after p before) + length c.in-Append.entries = ap length log ∙ length-append (log_after p before) c.in-Append.entries in
    let len = c.in_ok-len-in-Append.ensures.len in
    let more : length c.as_slice.result.now ≡ length c.in-Append.entries = ap length c.as_slice.ensures in
    counted_ok c.serve_appended.result (c.in_ok-len-in-Append.len + length c.as_slice.result.now) (length (log_after p batch)) (omega arith) c.serve_appended.ensures.len

pub returns-in_ok-len-in-Trim-clause-served : goal.returns-in_ok-len-in-Trim-clause-served
returns-in_ok-len-in-Trim-clause-served t c =
    let p = c.args.log.part.now in
    let batch = c.args.log.batch.now in
    let before = take (length batch - 1) batch in
    let q = part_after p before in
    let start = c.args.slice.start in
    let end = c.args.slice.end in
    let gone : c.index-gone.result ≡ c.in-Trim.at - q.trimmed = c.index-gone.ensures ∙ ap (λ (n : ℕ). c.in-Trim.at - n) c.trimmed_after-in-Trim.ensures in
    let log : log_after p batch ≡ drop (c.in-Trim.at - q.trimmed) (log_after p before) =
    last_log p batch c.last-item.result c.in-len1-up.len_at_least c.last-item.is ∙ ap (λ (d : Change). (part_with q d).tail.items) c.in-Trim.is in
    let xs = log_after p before in
    let k = c.in-Trim.at - q.trimmed in
    let first : c.in_ok-slice-in-Trim.slice.start ≡ start + k = c.in_ok-slice-in-Trim.ensures.start ∙ ap (λ (n : ℕ). start + n) gone in
    let past : c.in_ok-slice-in-Trim.slice.end ≡ end + k = c.in_ok-slice-in-Trim.ensures.end ∙ ap (λ (n : ℕ). end + n) gone in
    let same : drop c.in_ok-slice-in-Trim.slice.start (take c.in_ok-slice-in-Trim.slice.end xs) ≡ drop start (take end (log_after p batch)) =
    ap (λ (n : ℕ). drop n (take c.in_ok-slice-in-Trim.slice.end xs)) first ∙ ap (λ (n : ℕ). drop (start + k) (take n xs)) past
    ∙ sym (slice_behind start end k xs) ∙ ap (λ (es : List Entry). drop start (take end es)) (sym log) in
    subst (λ (es : List Entry). Continues c.args.service.now.service c.args.served.now c.serve_between-in-Trim.new.served es) same c.in_ok-len-in-Trim.ensures.served

pub returns-in_ok-len-in-Trim-clause-len : goal.returns-in_ok-len-in-Trim-clause-len
returns-in_ok-len-in-Trim-clause-len t c =
    let p = c.args.log.part.now in
    let batch = c.args.log.batch.now in
    let before = take (length batch - 1) batch in
    let q = part_after p before in
    let start = c.args.slice.start in
    let end = c.args.slice.end in
    let gone : c.index-gone.result ≡ c.in-Trim.at - q.trimmed = c.index-gone.ensures ∙ ap (λ (n : ℕ). c.in-Trim.at - n) c.trimmed_after-in-Trim.ensures in
    let log : log_after p batch ≡ drop (c.in-Trim.at - q.trimmed) (log_after p before) =
    last_log p batch c.last-item.result c.in-len1-up.len_at_least c.last-item.is ∙ ap (λ (d : Change). (part_with q d).tail.items) c.in-Trim.is in
    let len : length (log_after p batch) ≡ length (log_after p before) - (c.in-Trim.at - q.trimmed) = ap length log ∙ length-drop (c.in-Trim.at - q.trimmed) (log_after p before) in
    let left : c.saturating_sub.result ≡ c.in_ok-len-in-Trim.len - c.index-gone.result = omega arith in
    let there = c.in_ok-len-in-Trim.ensures.len in
    omega arith

pub returns-in_default-last : goal.returns-in_default-last
returns-in_default-last t c =
    let p = c.args.log.part.now in
    let batch = c.args.log.batch.now in
    let before = take (length batch - 1) batch in
    let q = part_after p before in
    let none = c.in_default-last in
    let log : log_after p before ≡ log_after p batch =
    sym (last_log p batch c.last-item.result c.in-len1-up.len_at_least c.last-item.is ∙ log_stays q c.last-item.result none.not-CutTo none.not-Append none.not-Trim) in
    let rest = c.serve_between-in_default-last in
    record {
      served = served_ok rest.result _ _ _ _ _ (ap (λ (es : List Entry). drop c.args.slice.start (take c.args.slice.end es)) log) rest.ensures.served;
      len = counted_ok rest.result _ _ (ap length log) rest.ensures.len;
    }
