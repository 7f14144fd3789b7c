-- Records one behind the other.
use Rattle.std.proofs.Common.{List, [], ◌∷◌, ◌++◌}
use Rattle.std.specs.List.{AllByRecursion}
use Rattle.object_store.specs.Stored.{Stored}
use Rattle.record_follows.specs.Courses.{world_after}
use Rattle.record_follows.specs.Follows.{Follows}
use Rattle.record_follows.proofs.Steps.{following_back, following_front, following_one}
use Rattle.tick_journal.specs.declared.tick_record.TickRecord.{TickRecord}
use Rattle.world_journal.specs.Journals.{IsCourse, IsRead}

-- ---- lists whose values all are so

pub all_more : {V : Type 0} (P : V → Type 0) (values : List V) (value : V) → AllByRecursion P values → P value → AllByRecursion P (values ++ value ∷ [])
all_more P [] value all is = (is, tt)
all_more P (v ∷ values) value all is = (all.0, all_more P values value all.1 is)

all_front : {V : Type 0} (P : V → Type 0) (values more : List V) → AllByRecursion P (values ++ more) → AllByRecursion P values
all_front P [] more all = tt
all_front P (v ∷ values) more all = (all.0, all_front P values more all.1)

-- ---- courses

pub course_more : (base : Stored) (entries : List TickRecord) (entry : TickRecord) → IsCourse base entries → IsRead entry → Follows (world_after base entries) entry → IsCourse base (entries ++ entry ∷ [])
course_more base entries entry course is follows = record {
  form = course.form;
  rules = course.rules;
  forms = all_more IsRead entries entry course.forms is;
  follow = following_one base entries entry course.follow follows;
}

pub course_front : (base : Stored) (entries more : List TickRecord) → IsCourse base (entries ++ more) → IsCourse base entries
course_front base entries more course = record {
  form = course.form;
  rules = course.rules;
  forms = all_front IsRead entries more course.forms;
  follow = following_front base entries more course.follow;
}

-- the record at a place follows the world before it
pub follows_at : (base : Stored) (entries : List TickRecord) (entry : TickRecord) (more : List TickRecord) → IsCourse base (entries ++ entry ∷ more) → Follows (world_after base entries) entry
follows_at base entries entry more course = (following_back base entries (entry ∷ more) course.follow).0
