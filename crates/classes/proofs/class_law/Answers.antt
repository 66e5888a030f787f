use Rattle.classes.specs.Classes.{IsOneOf}
use Rattle.classes.specs.Laws.{AreLinked}
use Rattle.classes.proofs.Reaching.{reaches_self, reaches_link, reaches_then, reaches_back, reaches_keeps, linked_back}
use Rattle.classes.proofs.class_law.Goals as goal

pub returns : goal.returns
returns c = record {
  itself = λ links a. reaches_self (AreLinked links) a;
  linked = λ links a b h. reaches_link (AreLinked links) a b h;
  back = λ links a b h. reaches_back (AreLinked links) (linked_back links) a b h;
  on = λ links a b d h k. reaches_then (AreLinked links) a b d h k;
  within = λ links set closed a b h i. reaches_keeps (AreLinked links) (λ x. IsOneOf x set) closed a b h i;
}
