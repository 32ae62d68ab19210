use borrow.Author.Rules.{rules}
use mathlib.Core.Path.{refl}
use native.Mathlib.Omega.{arith}
use Rattle.writer.proofs.Letters.{Others, keyed, no_letter, others_bare, shapes}
use Rattle.writer.specs.Written.{byte_of_letter, slot}
use Rattle.writer.proofs.rows.shape_at.Goals as goal

-- `rows::shape_at` meets its contract.

pub returns-in-78 : goal.returns-in-78
returns-in-78 c = keyed (slot c.args.nodes.now c.args.k) 78 (search rules) (search rules) refl shapes.0

pub returns-in-81 : goal.returns-in-81
returns-in-81 c = keyed (slot c.args.nodes.now c.args.k) 81 (search rules) (search rules) refl shapes.1

pub returns-in-84 : goal.returns-in-84
returns-in-84 c = keyed (slot c.args.nodes.now c.args.k) 84 (search rules) (search rules) refl shapes.2

pub returns-in-76 : goal.returns-in-76
returns-in-76 c = keyed (slot c.args.nodes.now c.args.k) 76 (search rules) (search rules) refl shapes.3

pub returns-in-87 : goal.returns-in-87
returns-in-87 c = keyed (slot c.args.nodes.now c.args.k) 87 (search rules) (search rules) refl shapes.4

pub returns-in-79 : goal.returns-in-79
returns-in-79 c = keyed (slot c.args.nodes.now c.args.k) 79 (search rules) (search rules) refl shapes.5

pub returns-in-70 : goal.returns-in-70
returns-in-70 c = keyed (slot c.args.nodes.now c.args.k) 70 (search rules) (search rules) refl shapes.6

pub returns-in-72 : goal.returns-in-72
returns-in-72 c = keyed (slot c.args.nodes.now c.args.k) 72 (search rules) (search rules) refl shapes.7

pub returns-in_default : goal.returns-in_default
returns-in_default c =
    let letter = slot c.args.nodes.now c.args.k in
    let others : Others (byte_of_letter letter) = record {
      no_n = no_letter letter 78 (λ e. omega arith) (search rules);
      no_q = no_letter letter 81 (λ e. omega arith) (search rules);
      no_t = no_letter letter 84 (λ e. omega arith) (search rules);
      no_l = no_letter letter 76 (λ e. omega arith) (search rules);
      no_w = no_letter letter 87 (λ e. omega arith) (search rules);
      no_o = no_letter letter 79 (λ e. omega arith) (search rules);
      no_f = no_letter letter 70 (λ e. omega arith) (search rules);
      no_h = no_letter letter 72 (λ e. omega arith) (search rules);
    } in
    others_bare _ others
