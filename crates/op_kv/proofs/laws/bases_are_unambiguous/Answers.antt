use Rattle.std.proofs.Common.{[], refl, sym, ap, ◌∙◌, ◌++◌}
use Rattle.op_fields.proofs.Formats.{one}
use Rattle.op_kv.specs.Bases.{base}
use Rattle.op_kv.proofs.BaseReads.{base_reads, base_text, has_base}
use Rattle.op_kv.proofs.laws.bases_are_unambiguous.Goals as goal

pub returns : goal.returns
returns c = record {
  text = base_text;
  reads = base_reads;
  holds = λ s range order. (s, range, order, refl);
  one = λ s t fs ft e. one base base_reads s t [] [] fs ft (ap (λ bytes. bytes ++ []) (base_text s fs.range ∙ e ∙ sym (base_text t ft.range)));
  fits = has_base;
}
