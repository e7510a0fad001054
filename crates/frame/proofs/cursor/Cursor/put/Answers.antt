use Rattle.std.proofs.Common.{List, ℕ, length, take, ◌++◌, sym, ap, ◌∙◌, arith}
use Rattle.std.proofs.lemmas.List.{drop-drop}
use Rattle.std.proofs.lemmas.Slice.{take-put_mid, drop-put_mid}
use Rattle.frame.proofs.cursor.Cursor.put.Goals as goal

pub returns-clause-puts : goal.returns-clause-puts
returns-clause-puts c =
    let was = c.args.self.now in
    let out = was.out.now in
    let bytes = c.args.bytes.now in
    let same = c.copy_from_slice.ensures.after in
    let long = ap length same in
    record {
      more =
          take-put_mid was.at _ out _ _ (omega (arith, long)) was.within
          ∙ ap (λ (l : List ℕ). take was.at out ++ l) same;
      left =
          drop-put_mid was.at _ out _ _ (omega (arith, long)) was.within (omega (arith, long))
          ∙ sym (drop-drop (length bytes) was.at out);
    }
