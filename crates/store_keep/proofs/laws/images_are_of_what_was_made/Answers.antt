use Rattle.store_keep.proofs.Imaging.{image_legal, image_of, part_legal, past_image}
use Rattle.store_keep.proofs.laws.images_are_of_what_was_made.Goals as goal

pub returns-clause-images : goal.returns-clause-images
returns-clause-images g c = λ store start items h. image_of g.D.Disk.reads_as g.D.Disk.images g.D.Disk.moment g.D.Disk.images_since store start items h

pub returns-clause-legal : goal.returns-clause-legal
returns-clause-legal g c = λ store start items h. part_legal g.D.Disk.reads_as g.D.Disk.images g.D.Disk.moment g.D.Disk.images_since store start items h

pub returns-clause-reopened : goal.returns-clause-reopened
returns-clause-reopened g c = λ store start items h. image_legal g.D.Disk.reads_as g.D.Disk.images g.D.Disk.moment g.D.Disk.images_since store start items h

pub returns-clause-moments : goal.returns-clause-moments
returns-clause-moments g c = λ store start items h. past_image g.D.Disk.reads_as g.D.Disk.images g.D.Disk.moment g.D.Disk.images_since store start items h
