mod ReadPages
mod Commits
