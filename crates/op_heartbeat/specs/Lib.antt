pub mod HeardReplies
